-- One line of a file of clients after another.
use Rattle.std.proofs.Common.{◌≡◌, ◌+◌, ◌++◌, ℕ, List, [], ◌∷◌, Option, Some, None, Err, ap, option_map}
use Rattle.base_forms.specs.Lines.{or_refused, read_lines}
use Rattle.request_clients.specs.Clients.{Client}
use Rattle.request_clients.specs.Clients.{next_client, with_line}

line_of : (n : ℕ) (clients : List Client) (more : List (List ℕ)) (found wanted : Option Client) → found
    ≡ wanted
    → or_refused n (option_map (λ k. clients ++ k ∷ []) found)
    (λ given. read_lines with_line (n + 1) given more)
    ≡ or_refused n (option_map (λ k. clients ++ k ∷ []) wanted) (λ given.
    read_lines with_line (n + 1) given more)
line_of n clients more found wanted same = ap (λ (o : Option Client).
    or_refused n (option_map (λ k. clients ++ k ∷ []) o) (λ given. read_lines with_line (n + 1) given more))
    same

-- a line is refused
pub clients_end : (n : ℕ) (clients : List Client) (lines : List (List ℕ)) (line : List ℕ)
    (more : List (List ℕ))
    → lines ≡ line ∷ more → next_client clients line ≡ None → read_lines with_line n clients lines ≡ Err n
clients_end n clients lines line more is none = rw is (line_of n clients more _ None none)

-- a line is a client
pub clients_go : (n : ℕ) (clients : List Client) (lines : List (List ℕ)) (line : List ℕ)
    (more : List (List ℕ))
    (k : Client)
    → lines ≡ line ∷ more → next_client clients line ≡ Some k
    → read_lines with_line n clients lines ≡ read_lines with_line (n + 1) (clients ++ k ∷ []) more
clients_go n clients lines line more k is some = rw is (line_of n clients more _ (Some k) some)

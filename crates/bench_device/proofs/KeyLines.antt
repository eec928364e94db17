-- One line of a file of keys after another.
use Rattle.std.proofs.Common.{◌≡◌, ◌+◌, ◌++◌, ℕ, List, [], ◌∷◌, Option, Some, None, Err, ap, option_map}
use Rattle.base_forms.specs.Lines.{or_refused, read_lines}
use Rattle.bench_device.specs.Bench.{Key}
use Rattle.bench_device.specs.KeysFile.{next_key, with_line}

line_of : (n : ℕ) (keys : List Key) (more : List (List ℕ)) (found wanted : Option Key) → found ≡ wanted
    → or_refused n (option_map (λ k. keys ++ k ∷ []) found) (λ given. read_lines with_line (n + 1) given more)
    ≡ or_refused n (option_map (λ k. keys ++ k ∷ []) wanted) (λ given.
    read_lines with_line (n + 1) given more)
line_of n keys more found wanted same = ap (λ (o : Option Key).
    or_refused n (option_map (λ k. keys ++ k ∷ []) o) (λ given. read_lines with_line (n + 1) given more)) same

-- a line is refused
pub keys_end : (n : ℕ) (keys : List Key) (lines : List (List ℕ)) (line : List ℕ) (more : List (List ℕ))
    → lines ≡ line ∷ more → next_key keys line ≡ None → read_lines with_line n keys lines ≡ Err n
keys_end n keys lines line more is none = rw is (line_of n keys more _ None none)

-- a line is a key
pub keys_go : (n : ℕ) (keys : List Key) (lines : List (List ℕ)) (line : List ℕ) (more : List (List ℕ))
    (k : Key)
    → lines ≡ line ∷ more → next_key keys line ≡ Some k
    → read_lines with_line n keys lines ≡ read_lines with_line (n + 1) (keys ++ k ∷ []) more
keys_go n keys lines line more k is some = rw is (line_of n keys more _ (Some k) some)

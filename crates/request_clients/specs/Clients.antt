-- The clients (OpenID4VP 1.0, section 5.9) that a wallet knows: a client a line, as `CLIENT NAME`, its
-- identifier and the name of its key.
use Rattle.std.specs.Prelude.{ℕ, ◌==◌, ◌||◌, nat_le, Bool, List, [], ◌∷◌, ◌++◌, length, Option, Some, None}
use Rattle.std.specs.Prelude.{option_map, is_some, Result, if◌then◌else◌}
use Rattle.std.specs.List.{before_first, after_first, list_any}
use Rattle.std.specs.Str.{bytes_eq}
use Rattle.base_forms.specs.Lines.{lines_of, read_lines}

-- a client: its identifier, and the name of its key
pub record Client : Type 0 where
  pub id : List ℕ
  pub key : List ℕ

-- the name of the key of the client with this identifier, compared as a whole
abbrev pub key_of : List Client → List ℕ → Option (List ℕ)
key_of [] id = None
key_of (c ∷ clients) id = if bytes_eq c.id id then Some c.key else key_of clients id

abbrev pub most_clients : ℕ
most_clients = 256

abbrev pub is_space : ℕ → Bool
is_space byte = byte == 32

abbrev pub is_tab : ℕ → Bool
is_tab byte = byte == 9

abbrev pub is_empty : List ℕ → Bool
is_empty text = length text == 0

-- neither is empty, and the identifier holds no blank
abbrev pub client : List ℕ → List ℕ → Option Client
client id key =
    if is_empty id || (list_any is_tab id || is_empty key) then None else Some (record { id = id; key = key })

-- the identifier, a space, and the name of the key, which is the rest and may have blanks itself
abbrev pub client_of : List ℕ → Option Client
client_of line = client (before_first is_space line) (after_first is_space line)

-- a client whose identifier is that of none of these
abbrev pub if_new : List Client → Option Client → Option Client
if_new clients None = None
if_new clients (Some c) = if is_some (key_of clients c.id) then None else Some c

-- the client of a line that stands after these
abbrev pub next_client : List Client → List ℕ → Option Client
next_client clients line =
    if nat_le most_clients (length clients) then None else if_new clients (client_of line)

-- these clients and that of the next line
abbrev pub with_line : List Client → List ℕ → Option (List Client)
with_line clients line = option_map (λ c. clients ++ c ∷ []) (next_client clients line)

-- the clients of a text, or the number of its first line that is refused
abbrev pub clients_in : List ℕ → Result (List Client) ℕ
clients_in text = read_lines with_line 1 [] (lines_of text)

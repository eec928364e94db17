-- Reading an item from the front (RFC 8949, section 3), up to the first head that breaks a rule.
use Rattle.std.specs.Prelude.{ℕ, zero, suc, List, [], ◌∷◌, length, drop, Bool, true, false, Some, None}
use Rattle.std.specs.Prelude.{Result, Ok, Err, nat_lt, ◌==◌, if◌then◌else◌}
use Rattle.cbor_validity.specs.declared.head.Fault.{Fault}
use Rattle.cbor_validity.specs.declared.head.Fault.TheVariants.{Short, Reserved, Deep}
use Rattle.cbor_validity.specs.declared.head.Head.{Head}
use Rattle.cbor_validity.specs.declared.head.Head.TheVariants as head
use Rattle.cbor_validity.specs.Head.{◌>>=◌, head_at}

-- A reader gives the bytes after what it reads from the front, or the first broken rule.
abbrev pub Reader : Type 0
Reader = List ℕ → Result (List ℕ) Fault

-- the content of a string
unfoldable pub string_at : ℕ → Reader
string_at n bytes = if nat_lt (length bytes) n then Err Short else Ok (drop n bytes)

-- a key and its value
abbrev pub pair_at : Reader → Reader
pair_at read bytes = read bytes >>= read

-- n of them, one after another
unfoldable pub times : Reader → ℕ → Reader
times read zero bytes = Ok bytes
times read (suc n) bytes = read bytes >>= times read n

-- all up to a break, and at most `turns` of them
unfoldable pub up_to_break : Reader → ℕ → Reader
up_to_break read turns [] = Err Short
up_to_break read zero (b ∷ bytes) = Err Short
up_to_break read (suc turns) (b ∷ bytes) =
    if b == 255 then Ok bytes else (read (b ∷ bytes) >>= up_to_break read turns)

-- whether a head has items inside
abbrev pub is_nest : Head → Bool
is_nest (head.List n) = true
is_nest (head.Map n) = true
is_nest (head.Tag n) = true
is_nest _ = false

-- the bytes after a head, where `read` reads the items inside
unfoldable pub behind : Reader → Head → Reader
behind read (head.Unsigned n) bytes = Ok bytes
behind read (head.Negative n) bytes = Ok bytes
behind read (head.Bytes n) bytes = string_at n bytes
behind read (head.Text n) bytes = string_at n bytes
behind read (head.List (Some n)) bytes = times read n bytes
behind read (head.List None) bytes = up_to_break read (length bytes) bytes
behind read (head.Map (Some n)) bytes = times (pair_at read) n bytes
behind read (head.Map None) bytes = up_to_break (pair_at read) (length bytes) bytes
behind read (head.Tag n) bytes = read bytes
behind read (head.Simple n) bytes = Ok bytes
behind read head.Float bytes = Ok bytes
behind read head.Break bytes = Err Reserved

-- no item may stand here
abbrev pub too_deep : Reader
too_deep bytes = Err Deep

-- an item with at most depth lists, maps and tags inside one another
unfoldable pub item_at : ℕ → Reader
item_at zero bytes = head_at bytes >>= λ h. if is_nest h.0 then Err Deep else behind too_deep h.0 h.1
item_at (suc depth) bytes = head_at bytes >>= λ h. behind (item_at depth) h.0 h.1

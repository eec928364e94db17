-- The file of keys: a key a line, as `hold SECRET NAME` or `know SECRET NAME`. A key that is known is judged
-- and not held.
use Rattle.std.specs.Prelude.{ℕ, ◌==◌, nat_le, Bool, true, false, List, [], ◌∷◌, ◌++◌, length, codes, Option}
use Rattle.std.specs.Prelude.{Some, None, Result, Ok, Err, option_map, is_some, if◌then◌else◌}
use Rattle.std.specs.List.{before_first, after_first}
use Rattle.std.specs.Str.{bytes_eq, is_utf8}
use Rattle.base_forms.specs.Base16.{hex_read}
use Rattle.base_forms.specs.Lines.{lines_of, read_lines}
use Rattle.bench_device.specs.Bench.{Key, key, find_key}

abbrev pub keys_name : List ℕ
keys_name = codes "device.keys"

abbrev pub most_bytes : ℕ
most_bytes = 1048576

abbrev pub most_keys : ℕ
most_keys = 256

abbrev pub is_blank : ℕ → Bool
is_blank byte = byte == 32

-- whether a key is held, by the first word of its line
abbrev pub kind_of : List ℕ → Option Bool
kind_of word =
    if bytes_eq word (codes "hold") then Some true else (if bytes_eq word (codes "know") then Some false else
    None)

abbrev pub bytes_of : Result (List ℕ) ℕ → Option (List ℕ)
bytes_of (Ok bytes) = Some bytes
bytes_of (Err rule) = None

-- 64 lower-case hexadecimal digits
abbrev pub secret_of : List ℕ → Option (List ℕ)
secret_of digits = if length digits == 64 then bytes_of (hex_read digits) else None

-- the name is not empty
abbrev pub named_key : Option Bool → List ℕ → List ℕ → Option Key
named_key None digits name = None
named_key (Some is_held) digits [] = None
named_key (Some is_held) digits (byte ∷ bytes) = option_map (λ secret. key (byte ∷ bytes) secret is_held)
    (secret_of digits)

-- `hold` or `know`, a blank, the secret, a blank and the name, which is the rest and may have blanks itself
abbrev pub key_of : List ℕ → Option Key
key_of line = named_key (kind_of (before_first is_blank line))
    (before_first is_blank (after_first is_blank line)) (after_first is_blank (after_first is_blank line))

-- a key whose name is none of these
abbrev pub if_new : List Key → Option Key → Option Key
if_new keys None = None
if_new keys (Some k) = if is_some (find_key keys k.name) then None else Some k

-- the key of a line that stands after these
abbrev pub next_key : List Key → List ℕ → Option Key
next_key keys line = if nat_le most_keys (length keys) then None else if_new keys (key_of line)

-- these keys and that of the next line
abbrev pub with_line : List Key → List ℕ → Option (List Key)
with_line keys line = option_map (λ k. keys ++ k ∷ []) (next_key keys line)

-- the keys of a text, or the number of its first line that is refused
abbrev pub keys_in : List ℕ → Result (List Key) ℕ
keys_in text = read_lines with_line 1 [] (lines_of text)

-- the keys of a file; bytes that are no UTF-8 are refused at line 1
abbrev pub keys_in_file : List ℕ → Result (List Key) ℕ
keys_in_file bytes = if is_utf8 bytes then keys_in bytes else Err 1

-- Deterministic encoding (RFC 8949, section 4.2.1): shortest heads, definite lengths.
use Rattle.std.specs.Prelude.{ℕ, ◌+◌, ◌*◌, List, [], ◌∷◌, ◌++◌, length, Bool, true, false, ℤ, pos, negsuc}
use Rattle.std.specs.Prelude.{nat_lt, if◌then◌else◌}
use Rattle.std.specs.Int.{w8, w16, w32, w64, to_be_bytes}

-- the shortest head of a major type with this argument
unfoldable pub head_bytes : ℕ → ℕ → List ℕ
head_bytes major n =
    if nat_lt n 24 then (32 * major + n) ∷ []
    else if nat_lt n 256 then (32 * major + 24) ∷ to_be_bytes w8 n
    else if nat_lt n 65536 then (32 * major + 25) ∷ to_be_bytes w16 n
    else if nat_lt n 4294967296 then (32 * major + 26) ∷ to_be_bytes w32 n
    else (32 * major + 27) ∷ to_be_bytes w64 n

abbrev pub whole_bytes : ℤ → List ℕ
whole_bytes (pos n) = head_bytes 0 n
whole_bytes (negsuc n) = head_bytes 1 n

-- a string of a major type
abbrev pub string_bytes : ℕ → List ℕ → List ℕ
string_bytes major content = head_bytes major (length content) ++ content

abbrev pub text_bytes : List ℕ → List ℕ
text_bytes text = string_bytes 3 text

abbrev pub byte_string_bytes : List ℕ → List ℕ
byte_string_bytes bytes = string_bytes 2 bytes

abbrev pub truth_bytes : Bool → List ℕ
truth_bytes false = 244 ∷ []
truth_bytes true = 245 ∷ []

abbrev pub null_bytes : List ℕ
null_bytes = 246 ∷ []

-- the pairs, one after another
abbrev pub pairs_bytes : List (List ℕ × List ℕ) → List ℕ
pairs_bytes [] = []
pairs_bytes (p ∷ ps) = (p.0 ++ p.1) ++ pairs_bytes ps

-- The lines of a text, and the first of them that is refused. A line ends with a line feed, as in POSIX
-- (IEEE 1003.1, 3.206 "Line"); the last one may do without.
use Rattle.std.specs.Prelude.{◌≡◌, ℕ, ◌+◌, ◌==◌, nat_lt, Bool, ◌||◌, List, [], ◌∷◌, Option, Some, None}
use Rattle.std.specs.Prelude.{Result, Ok, Err, if◌then◌else◌, ⊤}
use Rattle.std.specs.List.{onto_first}
use Rattle.std.specs.Str.{is_utf8}
use Rattle.base_forms.specs.declared.lines.LineError.{LineError}
use Rattle.base_forms.specs.declared.lines.LineError.TheVariants.{Refused, NoMemory}

-- the lines, without their line feeds; an empty text has none
abbrev pub lines_of : List ℕ → List (List ℕ)
lines_of [] = []
lines_of (byte ∷ bytes) = if byte == 10 then [] ∷ lines_of bytes else onto_first byte (lines_of bytes)

-- ---- lines of one form, each by itself

-- the number of the first of these lines that is bad or stands past the limit; the first of them has this
-- number
abbrev pub first_bad : ℕ → (List ℕ → Bool) → ℕ → List (List ℕ) → Option ℕ
first_bad limit is_bad number [] = None
first_bad limit is_bad number (line ∷ lines) =
    if nat_lt limit number || is_bad line then Some number else first_bad limit is_bad (number + 1) lines

-- the same of the bytes of a file, from 1; bytes that are no UTF-8 are refused at line 1
abbrev pub first_bad_in : ℕ → (List ℕ → Bool) → List ℕ → Option ℕ
first_bad_in limit is_bad bytes = if is_utf8 bytes then first_bad limit is_bad 1 (lines_of bytes) else Some 1

-- ---- lines of which each may depend on those before it

-- what the lines so far give and the next one; or the number of the next, where it is refused
abbrev pub or_refused : {A B : Type 0} → ℕ → Option A → (A → Result B ℕ) → Result B ℕ
or_refused number None rest = Err number
or_refused number (Some given) rest = rest given

-- What all lines give, where `next` takes each line to what those before it gave, or refuses it: then its
-- number. The first of these lines has this number.
abbrev pub read_lines : {A : Type 0} → (A → List ℕ → Option A) → ℕ → A → List (List ℕ) → Result A ℕ
read_lines next number given [] = Ok given
read_lines next number given (line ∷ lines) =
    or_refused number (next given line) (λ more. read_lines next (number + 1) more lines)

-- ---- errors

-- the error names the bad line, or there was no memory
abbrev pub IsBadLine : Option ℕ → LineError → Type 0
IsBadLine bad (Refused number) = bad ≡ Some number
IsBadLine bad NoMemory = ⊤

-- What the program prints for the lines of its input: a line for each.
use Rattle.std.specs.Prelude.{ℕ, List, [], ◌∷◌, ◌++◌, codes}
use Rattle.std.specs.Fmt.{decimal}
use Rattle.cbor_check.specs.declared.verdict.Verdict.{Verdict}
use Rattle.cbor_check.specs.declared.verdict.Verdict.TheVariants.{Read, Refused, NoHexadecimal}
use Rattle.cbor_check.specs.Verdicts.{verdict_of}

-- a text and a line feed
abbrev pub line : List ℕ → List ℕ
line text = text ++ 10 ∷ []

-- a verdict as it is printed
abbrev pub shown : Verdict → List ℕ
shown Read = codes "read"
shown (Refused rule) = decimal rule
shown NoHexadecimal = codes "no hexadecimal"

-- the answers to the lines
abbrev pub answers : List (List ℕ) → List ℕ
answers [] = []
answers (text ∷ texts) = line (shown (verdict_of text)) ++ answers texts

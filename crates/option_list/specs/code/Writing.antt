-- How a token is written, one entry after the other.
use Rattle.std.specs.Prelude.{ℕ, List, [], ◌∷◌, ◌++◌}
use Rattle.option_list.specs.Token.{Entry, entry_text}

-- a text, and `+` where it has any byte
abbrev pub separated : List ℕ → List ℕ
separated [] = []
separated (b ∷ bs) = (b ∷ bs) ++ 43 ∷ []

abbrev pub added : List ℕ → List Entry → List ℕ
added text [] = text
added text (e ∷ es) = added (separated text ++ entry_text e) es

-- What holds of tokens and of the rules of reading them.
use Rattle.std.specs.Prelude.{◌≡◌, ℕ, ◌⊎◌, List}
use Rattle.dcql_answers.specs.declared.pick.Pick.{Pick}
use Rattle.dcql_answers.specs.declared.fits.Fit.{Fit}
use Rattle.dcql_query.specs.Query.{Query}
use Rattle.dcql_query.specs.WellFormed.{IsQuery}
use Rattle.admitted_answers.specs.Admits.{Admits}
use Rattle.option_list.specs.Token.{token_of}
use Rattle.option_list.specs.Rules.{HasSmallPicks, Breaks}

-- the token of an admitted answer breaks no rule
abbrev pub NamesNoRule : Type 0
NamesNoRule = (q : Query) (fits : List Fit) (text : List ℕ) (n : ℕ) (a : List (List Pick)) → IsQuery q
    → Admits q fits a → HasSmallPicks a → token_of q a ≡ text → Breaks q fits text n → ⊥

-- a text is refused with the number of one rule at most
abbrev pub OneRule : Type 0
OneRule = (q : Query) (fits : List Fit) (text : List ℕ) (n m : ℕ) → Breaks q fits text n
    → Breaks q fits text m → n ≡ m

-- a text is the token of one admitted answer at most
abbrev pub OneAnswer : Type 0
OneAnswer = (q : Query) (fits : List Fit) (a b : List (List Pick)) → IsQuery q → Admits q fits a
    → Admits q fits b → HasSmallPicks a → HasSmallPicks b → token_of q a ≡ token_of q b → a ≡ b

-- a text is the token of an admitted answer, or is refused with the number of a rule
abbrev pub IsDecided : Type 0
IsDecided = (q : Query) (fits : List Fit) (text : List ℕ) → IsQuery q
    → ((a : List (List Pick)) × Admits q fits a × HasSmallPicks a × (token_of q a ≡ text))
    ⊎ ((n : ℕ) × Breaks q fits text n)

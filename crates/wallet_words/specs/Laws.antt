-- What counts are, and what words are files, tokens and counts.
use Rattle.std.specs.Prelude.{◌≡◌, ◌↔◌, ◌≤◌, ◌==◌, ℕ, false, List, [], ◌∷◌, ◌++◌, Option, Some, None, ⊤}
use Rattle.std.specs.Prelude.{codes, decimal, option_map}
use Rattle.wallet_words.specs.Command.{command_of, options, try_query}
use Rattle.wallet_words.specs.Count.{count_asked, count_of}

-- A text says the count n exactly where it is n's decimal form, and n is from 1 to 1000.
abbrev pub CountsAreDecimals : Type 0
CountsAreDecimals = (text : List ℕ) (n : ℕ)
    → (count_of text ≡ Some n) ↔ ((1 ≤ n) × (n ≤ 1000) × (text ≡ decimal n))

-- it does not begin with a hyphen
abbrev pub IsPlain : List ℕ → Type 0
IsPlain [] = ⊤
IsPlain (x ∷ xs) = (x == 45) ≡ false

-- plain words after `try` are its files
abbrev pub TryIsRead : Type 0
TryIsRead = (query trees : List ℕ) → IsPlain query → IsPlain trees
    → command_of (codes "try" ∷ query ∷ trees ∷ []) ≡ Some (try_query query trees)

abbrev pub after_words : Option (List ℕ) → List (List ℕ)
after_words None = []
after_words (Some token) = (codes "--after=" ++ token) ∷ []

abbrev pub count_words : Option (List ℕ) → List (List ℕ)
count_words None = []
count_words (Some text) = (codes "--count=" ++ text) ∷ []

-- Plain words after `options` are its files. After them any text is a token, and a text is a count where it
-- says one.
abbrev pub OptionsAreRead : Type 0
OptionsAreRead = (request wallet clients : List ℕ) (after count : Option (List ℕ)) → IsPlain request
    → IsPlain wallet → IsPlain clients
    → command_of (codes "options" ∷ request ∷ wallet ∷ clients ∷ (after_words after ++ count_words count))
    ≡ option_map (λ n. options request wallet clients after n) (count_asked count)

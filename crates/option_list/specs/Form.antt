-- The form of a token: one or more entries, each of an id and one or more picks, the numbers of which are
-- below
-- 65,536. In which order they stand, and whether one stands twice, is no part of the form.
use Rattle.std.specs.Prelude.{◌≡◌, ℕ, ◌<◌, ◌^◌, true, List, length, Option, Some, None}
use Rattle.std.specs.List.{AllByRecursion}
use Rattle.dcql_answers.specs.declared.pick.Pick.{Pick}
use Rattle.dcql_rules.specs.Ids.{is_id}
use Rattle.option_list.specs.Token.{Entry}

abbrev pub IsSmallNumber : ℕ → Type 0
IsSmallNumber n = n < 2 ^ 16

abbrev pub IsSmall : Pick → Type 0
IsSmall p = IsSmallNumber p.credential × IsSmallNumber p.set

-- there is one or more, and each is like this
abbrev pub IsEach : {A : Type 0} → (A → Type 0) → List A → Type 0
IsEach P xs = (0 < length xs) × AllByRecursion P xs

abbrev pub IsEntry : Entry → Type 0
IsEntry e = (is_id e.id ≡ true) × IsEach IsSmall e.picks

-- what is read of a text, where what is good is written so: a good thing that is written as the text, or
-- nothing
-- where no good thing is
abbrev pub Reads : {A : Type 0} → (A → Type 0) → (A → List ℕ) → List ℕ → Option A → Type 0
Reads {A} Good write text None = (x : A) → Good x → write x ≡ text → ⊥
Reads Good write text (Some x) = Good x × (write x ≡ text)

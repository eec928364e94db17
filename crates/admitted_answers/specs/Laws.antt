-- What holds of the order of answers and of the answers that follow one.
use Rattle.std.specs.Prelude.{◌≡◌, ◌↔◌, List, [], ◌∷◌, Option, Some}
use Rattle.std.specs.Cmp.{IsTotalOrder}
use Rattle.std.specs.declared.cmp.Ordering.TheVariants.{Equal}
use Rattle.dcql_answers.specs.declared.pick.Pick.{Pick}
use Rattle.dcql_answers.specs.declared.fits.Fit.{Fit}
use Rattle.dcql_query.specs.Query.{Query}
use Rattle.dcql_answers.specs.Answer.{answer_cmp}
use Rattle.admitted_answers.specs.Admits.{Admits}
use Rattle.admitted_answers.specs.Least.{IsNext, IsLast, AreFollowing}

-- the order is total, and two answers tie only where they are one
abbrev pub OrderIsTotal : Type 0
OrderIsTotal = IsTotalOrder answer_cmp × ((a b : List (List Pick)) → answer_cmp a b ≡ Equal → a ≡ b)

-- there is a list of all admitted answers that follow
abbrev pub FollowingIsThere : Type 0
FollowingIsThere = (q : Query) (fits : List Fit) (a : Option (List (List Pick)))
    → (xs : List (List (List Pick))) × AreFollowing (Admits q fits) answer_cmp a xs

-- it is empty exactly where none is next, and else it is the next and what follows that
abbrev pub FollowingIsNone : Type 0
FollowingIsNone = (q : Query) (fits : List Fit) (a : Option (List (List Pick)))
    → AreFollowing (Admits q fits) answer_cmp a [] ↔ IsLast (Admits q fits) answer_cmp a

abbrev pub FollowingIsNext : Type 0
FollowingIsNext = (q : Query) (fits : List Fit) (a : Option (List (List Pick))) (x : List (List Pick))
    (xs : List (List (List Pick)))
    → AreFollowing (Admits q fits) answer_cmp a (x ∷ xs) ↔
    (IsNext (Admits q fits) answer_cmp a x × AreFollowing (Admits q fits) answer_cmp (Some x) xs)

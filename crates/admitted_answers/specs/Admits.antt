-- Which answers a query and its fits admit (OpenID4VP 1.0, sections 6.1, 6.4.1 and 6.4.2).
use Rattle.std.specs.Prelude.{◌≡◌, ◌≢◌, ℕ, ◌+◌, ◌*◌, ◌≤◌, Bool, false, List, [], ◌∷◌, map, length, ⊤}
use Rattle.std.specs.Prelude.{if◌then◌else◌}
use Rattle.std.specs.List.{AllByRecursion}
use Rattle.std.specs.List.Sorted.{IsStrictlySortedBy}
use Rattle.dcql_answers.specs.declared.pick.Pick.{Pick}
use Rattle.dcql_answers.specs.declared.fits.Fit.{Fit}
use Rattle.dcql_answers.specs.Answer.{pick_cmp, answered}
use Rattle.dcql_query.specs.Query.{Credential, Query}
use Rattle.answered_sets.specs.Answered.{IsIn, IsAnswered}

-- the number whose bit i says whether credential query i is among them
abbrev pub bits_of : List Bool → ℕ
bits_of [] = 0
bits_of (b ∷ bs) = (if b then 1 else 0) + 2 * bits_of bs

-- each is unlike those after it
abbrev pub Differ : List ℕ → Type 0
Differ [] = ⊤
Differ (c ∷ cs) = AllByRecursion (λ d. c ≢ d) cs × Differ cs

abbrev pub IsFit : List Fit → ℕ → Pick → Type 0
IsFit fits i p = IsIn (record { query = i; credential = p.credential; set = p.set }) fits

-- what may be picked for credential query i: an ascending list, each credential at most once, each pick a
-- fit,
-- and one at most unless several are taken
pub record IsPickList (fits : List Fit) (i : ℕ) (multiple : Bool) (ps : List Pick) : Type 0 where
  pub ascends : IsStrictlySortedBy pick_cmp ps
  pub once : Differ (map (λ p. p.credential) ps)
  pub fit : AllByRecursion (IsFit fits i) ps
  pub few : multiple ≡ false → length ps ≤ 1

-- a list for each credential query, the first of which is at place i
abbrev pub ArePickLists : List Fit → ℕ → List Credential → List (List Pick) → Type 0
ArePickLists fits i [] [] = ⊤
ArePickLists fits i (q ∷ qs) (ps ∷ a) = IsPickList fits i q.multiple ps × ArePickLists fits (i + 1) qs a
ArePickLists fits i [] (ps ∷ a) = ⊥
ArePickLists fits i (q ∷ qs) [] = ⊥

pub record Admits (q : Query) (fits : List Fit) (a : List (List Pick)) : Type 0 where
  pub lists : ArePickLists fits 0 q.credentials a
  pub set : IsAnswered q (bits_of (answered a))

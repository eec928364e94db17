-- What is admitted by the fits of a holding, whichever list tells them.
use Rattle.std.proofs.Common.{ℕ, ◌+◌, ◌<◌, ◌≤◌, ◌^◌, List, [], ◌∷◌, length, slice_get, Option, Some, None}
use Rattle.std.proofs.Common.{Ok, Err, sym, inl, inr, arith, zero, suc}
use Rattle.std.specs.Prelude.{IsSomeAnd, IsOkAnd}
use Rattle.std.specs.List.{AllByRecursion, Contains}
use Rattle.answered_sets.specs.Answered.{IsIn}
use Rattle.credential_query.specs.Credential.{Credential as CredentialQuery}
use Rattle.credential_query.specs.WellFormed.{IsCredential}
use Rattle.dcql_answers.specs.declared.pick.Pick.{Pick}
use Rattle.dcql_answers.specs.declared.fits.Fit.{Fit}
use Rattle.dcql_answers.specs.Answer.{answer_cmp}
use Rattle.dcql_query.specs.Query.{Credential, Query}
use Rattle.dcql_query.specs.WellFormed.{IsQuery}
use Rattle.admitted_answers.specs.Admits.{IsFit as IsAmong, ArePickLists, Admits}
use Rattle.admitted_answers.specs.Least.{AreFollowing}
use Rattle.fit_table.specs.Fit.{FitsUnder, IsFit}
use Rattle.fit_table.specs.Slot.{Stands}
use Rattle.fit_table.proofs.AtPlaces.{slot_within}
use Rattle.option_list.specs.Form.{IsSmall}
use Rattle.option_list.specs.Rules.{HasSmallPicks}
use Rattle.wallet_answers.specs.Holding.{Holding}
use Rattle.wallet_answers.specs.Admitted.{Answer, AreFits, Admitted, AreAllAfter}

-- ---- what is in a list

pub in_from : {A : Type 0} (xs : List A) (x : A) → Contains xs x → IsIn x xs
in_from [] x (k, within, is) = absurd (omega (arith, within))
in_from (y ∷ ys) x (zero, within, is) = inl (sym is)
in_from (y ∷ ys) x (suc k, within, is) =
    let less : k < length ys = omega (arith, within) in
    inr (in_from ys x (k, less, is))

pub contains_from : {A : Type 0} (xs : List A) (x : A) → IsIn x xs → Contains xs x
contains_from [] x is = absurd is
contains_from (y ∷ ys) x (inl is) =
    let within : 0 < suc (length ys) = omega arith in
    (0, within, sym is)
contains_from (y ∷ ys) x (inr is) =
    let rest = contains_from ys x is in
    let within : suc rest.0 < suc (length ys) = omega (arith, rest.1) in
    (suc rest.0, within, rest.2)

-- ---- the fits

fits_agree : (q : Query) (h : Holding) (fits other : List Fit) → AreFits q h fits → AreFits q h other
    → (f : Fit) → IsIn f fits → IsIn f other
fits_agree q h fits other are too f is =
    in_from other f ((too f).1 ((are f).0 (contains_from fits f is)))

all_agree : (fits other : List Fit) (i : ℕ) → ((f : Fit) → IsIn f fits → IsIn f other) → (ps : List Pick)
    → AllByRecursion (IsAmong fits i) ps → AllByRecursion (IsAmong other i) ps
all_agree fits other i on [] all = tt
all_agree fits other i on (p ∷ ps) all = (on _ all.0, all_agree fits other i on ps all.1)

lists_agree : (fits other : List Fit) (i : ℕ) → ((f : Fit) → IsIn f fits → IsIn f other)
    → (qs : List Credential) (a : Answer) → ArePickLists fits i qs a → ArePickLists other i qs a
lists_agree fits other i on [] [] are = tt
lists_agree fits other i on [] (ps ∷ a) are = absurd are
lists_agree fits other i on (q ∷ qs) [] are = absurd are
lists_agree fits other i on (q ∷ qs) (ps ∷ a) are = (
  record {
    ascends = are.0.ascends;
    once = are.0.once;
    fit = all_agree fits other i on ps are.0.fit;
    few = are.0.few;
  },
  lists_agree fits other (i + 1) on qs a are.1,
)

admits_agree : (q : Query) (h : Holding) (fits other : List Fit) → AreFits q h fits → AreFits q h other
    → (a : Answer) → Admits q fits a → Admits q other a
admits_agree q h fits other are too a admits = record {
  lists = lists_agree fits other 0 (fits_agree q h fits other are too) q.credentials a admits.lists;
  set = admits.set;
}

pub admits_by : (q : Query) (h : Holding) (fits : List Fit) → AreFits q h fits → (a : Answer)
    → Admitted q h a → Admits q fits a
admits_by q h fits are a admitted =
    admits_agree q h admitted.0 fits admitted.1 are a admitted.2

pub following_by : (q : Query) (h : Holding) (fits : List Fit) → AreFits q h fits → (start : Option Answer)
    (all : List Answer) → AreAllAfter q h start all → AreFollowing (Admits q fits) answer_cmp start all
following_by q h fits are start all following = record {
  ascends = following.ascends;
  all = λ x follows. following.all x ((fits, are, follows.0), follows.1);
  only = λ x is.
      let follows = following.only x is in
      (admits_by q h fits are x follows.0, follows.1);
}

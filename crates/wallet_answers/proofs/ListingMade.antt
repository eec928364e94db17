-- There is a listing.
use Rattle.std.proofs.Common.{◌≡◌, ℕ, Bool, true, false, List, [], ◌∷◌, Option, Some, None, Result, Ok}
use Rattle.std.proofs.Common.{Err, refl, subst, inl, inr, ◌⊎◌}
use Rattle.std.specs.Prelude.{bytes_eq}
use Rattle.std.specs.List.{AllByRecursion}
use Rattle.std.proofs.lemmas.Slice.Eq.{bytes_eq-Decides}
use Rattle.answered_sets.specs.Answered.{IsIn}
use Rattle.dcql_answers.specs.declared.pick.Pick.{Pick}
use Rattle.dcql_query.specs.Query.{Query}
use Rattle.admitted_answers.proofs.AllAnswers.{following}
use Rattle.option_list.specs.code.Entries.{are_known}
use Rattle.option_list.specs.Form.{IsSmall}
use Rattle.option_list.specs.Rules.{HasEntries, HasNoForm, HasSmallPicks}
use Rattle.option_list.specs.Token.{Entry, token_of}
use Rattle.option_list.specs.Form.{IsEach, IsEntry}
use Rattle.option_list.specs.Token.{entries_text}
use Rattle.option_list.proofs.Readers.{Reading, entries}
use Rattle.wallet_answers.specs.Holding.{Holding}
use Rattle.wallet_answers.specs.Admitted.{Answer, AreAllAfter, IsTokenOf, Names}
use Rattle.wallet_answers.specs.Listing.{Listing}
use Rattle.wallet_answers.proofs.Admitting.{admits_by}
use Rattle.wallet_answers.proofs.Deciding.{Decided, both, is_less, is_true, alike}
use Rattle.wallet_answers.proofs.FitsListed.{fits_of}

-- ---- what follows

all_after : (q : Query) (h : Holding) (start : Option Answer)
    → (all : List Answer) × AreAllAfter q h start all
all_after q h start =
    let fits = fits_of q h in
    let all = following q fits.0 start in (
      all.0,
      record {
        ascends = all.1.ascends;
        all = λ x follows. all.1.all x (admits_by q h fits.0 fits.1 x follows.0, follows.1);
        only = λ x is. let follows = all.1.only x is in ((fits.0, fits.1, follows.0), follows.1);
      },
    )

-- ---- what a text names

found_in : {A : Type 0} (P : A → Type 0) → ((x : A) → Decided (P x)) → (xs : List A)
    → ((x : A) × IsIn x xs × P x) ⊎ ((x : A) → IsIn x xs → P x → ⊥)
found_in P by [] = inr (λ x is p. is)
found_in {A} P by (y ∷ ys) = one (by y) (found_in P by ys) where
  one : Decided (P y) → ((x : A) × IsIn x ys × P x) ⊎ ((x : A) → IsIn x ys → P x → ⊥)
      → ((x : A) × IsIn x (y ∷ ys) × P x) ⊎ ((x : A) → IsIn x (y ∷ ys) → P x → ⊥)
  one (inl p) rest = inl (y, inl refl, p)
  one (inr n) (inl (x, is, p)) = inl (x, inr is, p)
  one (inr n) (inr none) = inr last where
    last : (x : A) → IsIn x (y ∷ ys) → P x → ⊥
    last x (inl e) p = n (subst P e p)
    last x (inr is) p = none x is p

are_small : (ps : List Pick) → Decided (AllByRecursion IsSmall ps)
are_small [] = inl tt
are_small (p ∷ ps) = both (both (is_less p.credential _) (is_less p.set _)) (are_small ps)

has_small : (a : Answer) → Decided (HasSmallPicks a)
has_small [] = inl tt
has_small (ps ∷ a) = both (are_small ps) (has_small a)

is_text : (s t : List ℕ) → Decided (s ≡ t)
is_text s t =
    alike (λ e. (bytes_eq-Decides s t).0 e) (λ e. (bytes_eq-Decides s t).1 e) (is_true (bytes_eq s t))

abbrev HasToken : Query → List ℕ → Answer → Type 0
HasToken q text a = HasSmallPicks a × (token_of q a ≡ text)

form : (text : List ℕ) → ((es : List Entry) × HasEntries text es) ⊎ HasNoForm text
form text = by (entries text) where
  by : Reading (IsEach IsEntry) entries_text text → ((es : List Entry) × HasEntries text es) ⊎ HasNoForm text
  by (Some es, read) = inl (es, read)
  by (None, none) = inr (λ es has. none es has.0 has.1)

-- where no admitted answer has this token
unnamed : (q : Query) (h : Holding) (text : List ℕ) → ((a : Answer) → ¬ IsTokenOf q h text a)
    → ((es : List Entry) × HasEntries text es) ⊎ HasNoForm text → (r : Result Answer ℕ) × Names q h text r
unnamed q h text none (inr no_form) = (Err 1, inl (refl, no_form))
unnamed q h text none (inl (es, has)) = by (are_known q.credentials es) refl where
  by : (t : Bool) → are_known q.credentials es ≡ t → (r : Result Answer ℕ) × Names q h text r
  by true known = (Err 3, inr (inr (refl, ((es, has, known), none))))
  by false unknown = (Err 2, inr (inl (refl, (es, has, unknown))))

named_among : (q : Query) (h : Holding) (text : List ℕ) (all : List Answer) → AreAllAfter q h None all
    → ((a : Answer) × IsIn a all × HasToken q text a) ⊎ ((a : Answer) → IsIn a all → HasToken q text a → ⊥)
    → (r : Result Answer ℕ) × Names q h text r
named_among q h text all are (inl (a, is, has)) =
    (Ok a, record { admitted = (are.only a is).0; small = has.0; token = has.1 })
named_among q h text all are (inr none) =
    unnamed q h text (λ a is. none a (are.all a (is.admitted, tt)) (is.small, is.token)) (form text)

named : (q : Query) (h : Holding) (text : List ℕ) → (r : Result Answer ℕ) × Names q h text r
named q h text =
    let all = all_after q h None in
    named_among q h text all.0 all.1
    (found_in (HasToken q text) (λ a. both (has_small a) (is_text (token_of q a) text)) all.0)

pub listing : Listing
listing = record {
  following = λ q h start. (all_after q h start).0;
  in_order = λ q h start. (all_after q h start).1;
  named = λ q h text. (named q h text).0;
  by_rules = λ q h text. (named q h text).1;
}

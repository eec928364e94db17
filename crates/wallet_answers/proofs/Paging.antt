-- A page of answers is the one that a listing has.
use Rattle.std.proofs.Common.{◌≡◌, ◌∙◌, ℕ, ◌≤◌, Bool, true, false, List, length, take, Option, Some, None}
use Rattle.std.proofs.Common.{Result, [], ◌∷◌}
use Rattle.std.proofs.Common.{Ok, Err, refl, sym, ap, ap₂, subst, ◌↔◌}
use Rattle.std.specs.List.{AllByRecursion}
use Rattle.std.specs.Prelude.{nat_le}
use Rattle.std.specs.Prelude.{IfErr, IsErrAnd}
use Rattle.std.specs.Result.{result_map_both}
use Rattle.std.proofs.lemmas.Bool.{le-leb, leb-true}
use Rattle.dcql_answers.specs.declared.fits.Fit.{Fit}
use Rattle.dcql_answers.specs.Answer.{answer_cmp}
use Rattle.dcql_query.specs.Query.{Query}
use Rattle.dcql_query.specs.WellFormed.{IsQuery}
use Rattle.admitted_answers.specs.Admits.{Admits}
use Rattle.admitted_answers.specs.Least.{AreFollowing, AreNext}
use Rattle.option_list.specs.declared.error.Error.{Error}
use Rattle.option_list.specs.declared.error.Error.TheVariants.{Refused, NoMemory}
use Rattle.option_list.specs.Rules.{IsRefused, HasSmallPicks}
use Rattle.option_list.specs.Token.{token_of}
use Rattle.wallet_answers.specs.Holding.{Holding}
use Rattle.wallet_answers.specs.Admitted.{Answer, AreFits}
use Rattle.wallet_answers.specs.Listing.{Listing, Page, cut, page_of, IsRefusedBy}
use Rattle.wallet_answers.proofs.Admitting.{following_by}
use Rattle.wallet_answers.proofs.Naming.{answer_named, rule_named}

test_is : (b : Bool) (n m : ℕ) (t : Bool) → nat_le n m ≡ t → (b ≡ true) ↔ (n ≤ m) → t ≡ b
test_is true n m t is iff = sym is ∙ le-leb n m (iff.0 refl)
test_is false n m true is iff = sym (iff.1 (leb-true n m is))
test_is false n m false is iff = refl

-- the answers are a front of all that follow, and the end is where no more do
abbrev IsFront : Query → List Fit → Option Answer → ℕ → List Answer → Bool → Type 0
IsFront q fits start count answers end =
    (all : List Answer) → AreFollowing (Admits q fits) answer_cmp start all
    → (answers ≡ take count all) × ((end ≡ true) ↔ (length all ≤ count))

pub cut_is : (listing : Listing) (q : Query) (h : Holding) (fits : List Fit) (start : Option Answer)
    (count : ℕ) (answers : List Answer) (end : Bool) → AreFits q h fits
    → IsFront q fits start count answers end
    → cut count (listing.following q h start) ≡ record { answers = answers; end = end }
cut_is listing q h fits start count answers end are front =
    let all = listing.following q h start in
    let both = front all (following_by q h fits are start all (listing.in_order q h start)) in
    ap₂ (λ (a : List Answer) (e : Bool). record { answers = a; end = e }) (sym both.0)
    (test_is end (length all) count (nat_le (length all) count) refl both.1)

abbrev page_by : Listing → Query → Holding → ℕ → Result Answer ℕ → Result Page ℕ
page_by listing q h count named =
    result_map_both (λ start. cut count (listing.following q h start)) (λ n. n)
    (result_map_both (λ a. Some a) (λ n. n) named)

pub token_page : (listing : Listing) (q : Query) (h : Holding) (fits : List Fit) (text : List ℕ) (count : ℕ)
    (a : Answer) (answers : List Answer) (end : Bool) → IsQuery q → AreFits q h fits → HasSmallPicks a
    → Admits q fits a → token_of q a ≡ text → IsFront q fits (Some a) count answers end
    → page_of listing q h (Some text) count ≡ Ok (record { answers = answers; end = end })
token_page listing q h fits text count a answers end well are small admits is front =
    ap (page_by listing q h count)
    (answer_named listing q h fits text a well are admits small is)
    ∙ ap (λ (p : Page). Ok p) (cut_is listing q h fits (Some a) count answers end are front)

pub first_page : (listing : Listing) (q : Query) (h : Holding) (fits : List Fit) (count : ℕ)
    (answers : List Answer) (end : Bool) → AreFits q h fits → IsFront q fits None count answers end
    → page_of listing q h None count ≡ Ok (record { answers = answers; end = end })
first_page listing q h fits count answers end are front =
    ap (λ (p : Page). Ok p) (cut_is listing q h fits None count answers end are front)

pub refused_page : (listing : Listing) (q : Query) (h : Holding) (fits : List Fit) (text : List ℕ) (count : ℕ)
    (e : Error) → IsQuery q → AreFits q h fits → IsRefused q fits text e
    → IsRefusedBy (page_of listing q h (Some text) count) e
refused_page listing q h fits text count (Refused n) well are breaks =
    ap (page_by listing q h count) (rule_named listing q h fits text n well are breaks)
refused_page listing q h fits text count NoMemory well are breaks = tt

-- the error that comes is handed on
pub handed_on : {T : Type 0} (page : Result Page ℕ) (r : Result T Error) (e : Error) → IsErrAnd r (λ f. f ≡ e)
    → IsRefusedBy page e → IfErr r (IsRefusedBy page)
handed_on page (Ok v) e is refused = absurd is
handed_on page (Err f) e is refused = subst (IsRefusedBy page) (sym is) refused

-- memory ran out for the page
pub no_memory : {T : Type 0} (page : Result Page ℕ) (r : Result T Error) → IsErrAnd r (λ e. e ≡ NoMemory)
    → IfErr r (IsRefusedBy page)
no_memory page (Ok v) is = absurd is
no_memory page (Err e) is = rw is tt

-- answers each of which is the next one are admitted
pub all_admitted : (q : Query) (fits : List Fit) (start : Option Answer) (answers : List Answer)
    → AreNext (Admits q fits) answer_cmp start answers → AllByRecursion (Admits q fits) answers
all_admitted q fits start [] next = tt
all_admitted q fits start (a ∷ answers) next = (next.0.is.0, all_admitted q fits (Some a) answers next.1)

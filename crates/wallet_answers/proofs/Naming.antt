-- A listing names by a token what a reader of tokens reads.
use Rattle.std.proofs.Common.{◌≡◌, ◌∙◌, ℕ, List, Result, Ok, Err, sym, ap}
use Rattle.std.proofs.Common.{inl, inr}
use Rattle.dcql_answers.specs.declared.fits.Fit.{Fit}
use Rattle.dcql_query.specs.Query.{Query}
use Rattle.dcql_query.specs.WellFormed.{IsQuery}
use Rattle.admitted_answers.specs.Admits.{Admits}
use Rattle.option_list.specs.Rules.{Breaks, HasSmallPicks}
use Rattle.option_list.specs.Token.{token_of}
use Rattle.option_list.proofs.TokenLaws.{names_no_rule, one_rule, one_answer}
use Rattle.wallet_answers.specs.Holding.{Holding}
use Rattle.wallet_answers.specs.Admitted.{Answer, AreFits, BreaksRule, Names}
use Rattle.wallet_answers.specs.Listing.{Listing}
use Rattle.wallet_answers.proofs.Admitting.{admits_by}

-- a rule that is broken by the holding is broken by its fits
breaks_by : (q : Query) (h : Holding) (fits : List Fit) (text : List ℕ) (n : ℕ) → AreFits q h fits
    → BreaksRule q h text n → Breaks q fits text n
breaks_by q h fits text n are (inl form) = inl form
breaks_by q h fits text n are (inr (inl id)) = inr (inl id)
breaks_by q h fits text n are (inr (inr (is, (known, none)))) =
    inr (inr (
      is,
      (
        known,
        λ a admits small token.
            none a (record { admitted = (fits, are, admits); small = small; token = token }),
      ),
    ))

answer_at : (q : Query) (h : Holding) (fits : List Fit) (text : List ℕ) (a : Answer) → IsQuery q
    → AreFits q h fits → Admits q fits a → HasSmallPicks a → token_of q a ≡ text
    → (named : Result Answer ℕ) → Names q h text named → named ≡ Ok a
answer_at q h fits text a well are admits small token (Ok b) names =
    ap (λ (x : Answer). Ok x)
    (one_answer q fits b a well (admits_by q h fits are b names.admitted) admits names.small small
    (names.token ∙ sym token))
answer_at q h fits text a well are admits small token (Err n) names =
    absurd (names_no_rule q fits text n a well admits small token (breaks_by q h fits text n are names))

-- the answer that has the token
pub answer_named : (listing : Listing) (q : Query) (h : Holding) (fits : List Fit) (text : List ℕ)
    (a : Answer) → IsQuery q → AreFits q h fits → Admits q fits a → HasSmallPicks a → token_of q a ≡ text
    → listing.named q h text ≡ Ok a
answer_named listing q h fits text a well are admits small token =
    answer_at q h fits text a well are admits small token (listing.named q h text)
    (listing.by_rules q h text)

rule_at : (q : Query) (h : Holding) (fits : List Fit) (text : List ℕ) (n : ℕ) → IsQuery q → AreFits q h fits
    → Breaks q fits text n → (named : Result Answer ℕ) → Names q h text named → named ≡ Err n
rule_at q h fits text n well are breaks (Ok b) names =
    absurd (names_no_rule q fits text n b well (admits_by q h fits are b names.admitted) names.small
    names.token breaks)
rule_at q h fits text n well are breaks (Err m) names =
    ap (λ (x : ℕ). Err x) (one_rule q fits text m n (breaks_by q h fits text m are names) breaks)

-- the rule that is broken
pub rule_named : (listing : Listing) (q : Query) (h : Holding) (fits : List Fit) (text : List ℕ) (n : ℕ)
    → IsQuery q → AreFits q h fits → Breaks q fits text n → listing.named q h text ≡ Err n
rule_named listing q h fits text n well are breaks =
    rule_at q h fits text n well are breaks (listing.named q h text) (listing.by_rules q h text)

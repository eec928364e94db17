-- The answers that a query admits of what a holder has, and what a token says of them (OpenID4VP 1.0,
-- sections 6.1, 6.4.1 and 6.4.2).
use Rattle.std.specs.Prelude.{◌≡◌, ◌↔◌, ℕ, ◌⊎◌, List, Result, Ok, Err, Option}
use Rattle.std.specs.List.{Contains}
use Rattle.dcql_answers.specs.declared.pick.Pick.{Pick}
use Rattle.dcql_answers.specs.declared.fits.Fit.{Fit}
use Rattle.dcql_answers.specs.Answer.{answer_cmp}
use Rattle.dcql_query.specs.Query.{Query}
use Rattle.admitted_answers.specs.Admits.{Admits}
use Rattle.admitted_answers.specs.Least.{AreFollowing}
use Rattle.fit_table.specs.Fit.{IsFit}
use Rattle.option_list.specs.Rules.{HasSmallPicks, HasNoForm, HasUnknownId, HasKnownIds}
use Rattle.option_list.specs.Token.{token_of}
use Rattle.wallet_answers.specs.Holding.{Holding}

abbrev pub Answer : Type 0
Answer = List (List Pick)

-- These are the fits: which credential that can be used meets which credential query under which claim set.
abbrev pub AreFits : Query → Holding → List Fit → Type 0
AreFits q h fits = (fit : Fit) → Contains fits fit ↔ IsFit q h.slots h.held h.now fit

-- The query admits the answer, by the fits.
abbrev pub Admitted : Query → Holding → Answer → Type 0
Admitted q h a = (fits : List Fit) × AreFits q h fits × Admits q fits a

-- These are all admitted answers after this one, or all where none is given, ascending, each once.
abbrev pub AreAllAfter : Query → Holding → Option Answer → List Answer → Type 0
AreAllAfter q h start all = AreFollowing (Admitted q h) answer_cmp start all

-- The text is the token of this answer, which is admitted.
pub record IsTokenOf (q : Query) (h : Holding) (text : List ℕ) (a : Answer) : Type 0 where
  pub admitted : Admitted q h a
  pub small : HasSmallPicks a
  pub token : token_of q a ≡ text

-- Rule n is the one that the text breaks: 1 it has not the form of a token; 2 an id in it is that of no
-- credential query; 3 it is the token of no admitted answer.
abbrev pub BreaksRule : Query → Holding → List ℕ → ℕ → Type 0
BreaksRule q h text n = ((n ≡ 1) × HasNoForm text)
    ⊎ ((n ≡ 2) × HasUnknownId q text)
    ⊎ ((n ≡ 3) × (HasKnownIds q text × ((a : Answer) → ¬ IsTokenOf q h text a)))

-- The text names this answer, or breaks this rule.
abbrev pub Names : Query → Holding → List ℕ → Result Answer ℕ → Type 0
Names q h text (Ok a) = IsTokenOf q h text a
Names q h text (Err n) = BreaksRule q h text n

-- The admitted answers as lists, and the pages that are cut from them.
use Rattle.std.specs.Prelude.{◌≡◌, ℕ, nat_le, List, length, take, Bool, Option, Some, None, Result, Ok}
use Rattle.std.specs.Prelude.{Err, ⊤}
use Rattle.std.specs.Result.{result_map_both}
use Rattle.dcql_query.specs.Query.{Query}
use Rattle.option_list.specs.declared.error.Error.{Error}
use Rattle.option_list.specs.declared.error.Error.TheVariants.{Refused, NoMemory}
use Rattle.wallet_answers.specs.Holding.{Holding}
use Rattle.wallet_answers.specs.Admitted.{Answer, AreAllAfter, Names}

-- What follows each answer, and what each text names.
pub record Listing : Type 0 where
  pub following : Query → Holding → Option Answer → List Answer
  pub in_order : (q : Query) (h : Holding) (start : Option Answer)
      → AreAllAfter q h start (following q h start)
  pub named : Query → Holding → List ℕ → Result Answer ℕ
  pub by_rules : (q : Query) (h : Holding) (text : List ℕ) → Names q h text (named q h text)

-- some answers, and whether no more follow
pub record Page : Type 0 where
  pub answers : List Answer
  pub end : Bool

-- the first so many of these answers
abbrev pub cut : ℕ → List Answer → Page
cut count all = record { answers = take count all; end = nat_le (length all) count }

-- the answer after which a page begins, none where it begins with the first of all; or the rule that a token
-- breaks
abbrev pub start_of : Listing → Query → Holding → Option (List ℕ) → Result (Option Answer) ℕ
start_of listing q h None = Ok None
start_of listing q h (Some token) = result_map_both (λ a. Some a) (λ n. n) (listing.named q h token)

-- the page of so many answers after a token, or from the first on
abbrev pub page_of : Listing → Query → Holding → Option (List ℕ) → ℕ → Result Page ℕ
page_of listing q h after count =
    result_map_both (λ start. cut count (listing.following q h start)) (λ n. n) (start_of listing q h after)

-- There is none, for the reason that the error tells, or memory ran out.
abbrev pub IsRefusedBy : Result Page ℕ → Error → Type 0
IsRefusedBy page (Refused n) = page ≡ Err n
IsRefusedBy page NoMemory = ⊤

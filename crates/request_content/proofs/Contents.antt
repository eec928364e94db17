-- The table of a payload's rules, stage by stage.
use Rattle.std.proofs.Common.{◌≡◌, ℕ, Bool, true, false, Option, Some, None, refl, ap, ◌∙◌, not, ◌∷◌, []}
use Rattle.std.proofs.Common.{Result, Ok, Err, IfOk, IfErr}
use Rattle.base_forms.specs.Rules.{first, rule}
use Rattle.request_content.specs.Rules.{number, within}
use Rattle.request_content.specs.code.Errors.{IsRefusal}
use Rattle.request_content.specs.declared.error.Error.{Error}
use Rattle.request_content.specs.declared.error.RequestRule.{RequestRule}

-- rules 10 to 14, whether there is a response address, rules 16 to 20 and the rule of the query
abbrev pub table : Option RequestRule → Bool → Option RequestRule → Option RequestRule → Option RequestRule
table response has_address session query =
    first (response ∷ rule (number 15) (not has_address) ∷ session ∷ query ∷ [])

pub first_of_one : (r : Option RequestRule) → first (r ∷ []) ≡ r
first_of_one None = refl
first_of_one (Some x) = refl

pub address_rule : (response : Option RequestRule) (has_address : Bool) (session query : Option RequestRule)
    → response ≡ None → has_address ≡ false
    → table response has_address session query ≡ Some (number 15)
unfolding rule
address_rule None false session query whole lacks = refl
address_rule None true session query whole lacks = absurd (cc lacks)
address_rule (Some x) has_address session query whole lacks = absurd (cc whole)

-- the rules up to the response address hold
past_address : (response : Option RequestRule) (has_address : Bool) (session query : Option RequestRule)
    → response ≡ None → has_address ≡ true
    → table response has_address session query ≡ first (session ∷ query ∷ [])
unfolding rule
past_address None true session query whole is = refl
past_address None false session query whole is = absurd (cc is)
past_address (Some x) has_address session query whole is = absurd (cc whole)

pub session_rule_is : (response : Option RequestRule) (has_address : Bool)
    (session query : Option RequestRule) (broken : RequestRule)
    → response ≡ None → has_address ≡ true → session ≡ Some broken
    → table response has_address session query ≡ Some broken
session_rule_is response has_address session query broken whole is some =
    past_address response has_address session query whole is
    ∙ ap (λ (s : Option RequestRule). first (s ∷ query ∷ [])) some

-- the rule of the query is left
pub query_rule_is : (response : Option RequestRule) (has_address : Bool) (session query : Option RequestRule)
    → response ≡ None → has_address ≡ true → session ≡ None
    → table response has_address session query ≡ query
query_rule_is response has_address session query whole is none =
    past_address response has_address session query whole is
    ∙ ap (λ (s : Option RequestRule). first (s ∷ query ∷ [])) none
    ∙ first_of_one query

-- the query was read, or refused
pub query_read : {Q : Type 0} (table : Option RequestRule) (broken : Option ℕ) (read : Result Q Error)
    → table ≡ within 21 broken → IfOk read (λ q. broken ≡ None) → IfOk read (λ q. table ≡ None)
query_read table broken (Ok q) same none = same ∙ ap (within 21) none
query_read table broken (Err error) same none = tt

pub query_refused : {Q : Type 0} (table query : Option RequestRule) (read : Result Q Error)
    → table ≡ query → IfErr read (λ error. IsRefusal query error)
    → IfErr read (λ error. IsRefusal table error)
query_refused table query (Ok q) same is = tt
query_refused table query (Err error) same is = rw same is

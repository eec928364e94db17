-- Why no options are printed: the request is refused (OpenID4VP 1.0, sections 5 and 8.5), or the token after
-- which they are to begin.
use Rattle.std.specs.Prelude.{ℕ, ◌==◌, ◌||◌, Bool, List, ◌++◌, if◌then◌else◌, codes}
use Rattle.std.specs.Fmt.{decimal}
use Rattle.outside.specs.declared.status.Status.TheVariants.{RequestRefused, NotAnOption}
use Rattle.program_steps.specs.Outcome.{Outcome, ends_with, line}
use Rattle.request_content.specs.declared.error.RequestRule.{RequestRule}

-- a signed message and a query have rules of their own
abbrev pub has_table : ℕ → Bool
has_table number = number == 4 || number == 21

-- the number of the rule, and that of the rule within it
abbrev pub rule_text : RequestRule → List ℕ
rule_text rule =
    if has_table rule.number then decimal rule.number ++ (codes "." ++ decimal rule.inner)
    else decimal rule.number

-- the error code of the standard: transaction data has its own
abbrev pub error_code : ℕ → List ℕ
error_code number = if number == 19 then codes "invalid_transaction_data" else codes "invalid_request"

abbrev pub request_refused : RequestRule → Outcome
request_refused rule = ends_with RequestRefused
    (line (codes "refused request " ++ (rule_text rule ++ (codes " " ++ error_code rule.number))))

-- the token breaks this rule
abbrev pub not_an_option : ℕ → Outcome
not_an_option rule = ends_with NotAnOption (line (codes "not an option " ++ decimal rule))

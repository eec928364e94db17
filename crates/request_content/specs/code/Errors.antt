-- Which error comes for the refusal of a query, and for a broken rule.
use Rattle.std.specs.Prelude.{◌≡◌, Option, Some, ⊤}
use Rattle.dcql_query.specs.declared.error.Error as query
use Rattle.dcql_query.specs.declared.error.Error.TheVariants as query_error
use Rattle.request_content.specs.declared.error.Error.{Error}
use Rattle.request_content.specs.declared.error.Error.TheVariants.{Refused, NoMemory}
use Rattle.request_content.specs.declared.error.RequestRule.{RequestRule}

abbrev pub query_refusal : query.Error → Error
query_refusal (query_error.Refused n) = Refused (record { number = 21; inner = n })
query_refusal query_error.NoMemory = NoMemory

-- the error names the broken rule, or is out of memory
abbrev pub IsRefusal : Option RequestRule → Error → Type 0
IsRefusal broken (Refused rule) = broken ≡ Some rule
IsRefusal broken NoMemory = ⊤

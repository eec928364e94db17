-- What a JSON value asks for as a query, where it breaks no rule (OpenID4VP 1.0, section 6).
use Rattle.std.specs.Prelude.{ℕ, ◌+◌, ◌*◌, Bool, true, false, List, [], ◌∷◌, map, codes, option_map, Result}
use Rattle.std.specs.Prelude.{if◌then◌else◌}
use Rattle.std.specs.Option.{option_map_or}
use Rattle.std.specs.List.{list_any}
use Rattle.serde_json.specs.Data.{Data}
use Rattle.serde_json.specs.Find.{get, as_str}
use Rattle.base_forms.specs.Rules.{unless_broken}
use Rattle.json_forms.specs.Look.{elements_of, elements_at}
use Rattle.dcql_rules.specs.Flags.{flag_at}
use Rattle.dcql_rules.specs.Ids.{is_named}
use Rattle.dcql_rules.specs.Rules.{query_rule}
use Rattle.credential_query.specs.Meaning.{credential_of}
use Rattle.dcql_query.specs.Query.{Credential, CredentialSet, Query}

abbrev pub credentials_of : List Data → List Credential
credentials_of qs = map credential_of qs

-- ---- credential sets (section 6.2)

-- the names have the query's id among them
abbrev pub is_among : List Data → Data → Bool
is_among names q = list_any (λ n. option_map_or (λ s. is_named s q) (as_str n) false) names

-- the number whose bit i says whether the names have query i among them
abbrev pub option_bits : List Data → List Data → ℕ
option_bits names [] = 0
option_bits names (q ∷ qs) = (if is_among names q then 1 else 0) + 2 * option_bits names qs

abbrev pub options_of : List Data → List Data → List ℕ
options_of qs options = map (λ o. option_bits (elements_of o) qs) options

abbrev pub credential_set_of : List Data → Data → CredentialSet
credential_set_of qs s = record {
  options = options_of qs (elements_at (codes "options") s);
  required = flag_at (codes "required") true s;
}

abbrev pub credential_sets_of : List Data → List Data → List CredentialSet
credential_sets_of qs ss = map (credential_set_of qs) ss

-- ---- the query

abbrev pub meaning_of : Data → Query
meaning_of d =
    let queries = elements_at (codes "credentials") d in
    record {
      credentials = credentials_of queries;
      sets = option_map (λ s. credential_sets_of queries (elements_of s)) (get (codes "credential_sets") d);
    }

-- the query, or the least rule that is broken
abbrev pub query_of : Data → Result Query ℕ
query_of d = unless_broken (query_rule d) (meaning_of d)

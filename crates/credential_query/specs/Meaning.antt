-- What the JSON of a credential query asks for (OpenID4VP 1.0, sections 6.1, 6.3 and 6.4.1). Where it breaks
-- a rule it means nothing, and this is whatever the look-ups give.
use Rattle.std.specs.Prelude.{ℕ, ◌+◌, true, false, List, [], ◌∷◌, map, length, codes, Option, Some}
use Rattle.std.specs.Prelude.{None, option_map, option_and_then, filter_map, if◌then◌else◌}
use Rattle.std.specs.Option.{unwrap_or}
use Rattle.std.specs.List.{range_with_len}
use Rattle.serde_json.specs.Data.{Data}
use Rattle.serde_json.specs.Find.{get, as_str}
use Rattle.json_forms.specs.Look.{elements_of, is_empty, text_at, elements_at}
use Rattle.claim_path.specs.Read.{step_of, scalars_of}
use Rattle.claim_tree.specs.declared.facts.Format.{Format}
use Rattle.claim_tree.specs.declared.facts.Format.TheVariants.{SdJwt, Mdoc}
use Rattle.dcql_rules.specs.Flags.{flag_at}
use Rattle.dcql_rules.specs.Ids.{is_named}
use Rattle.dcql_rules.specs.Rules.{has_format}
use Rattle.credential_query.specs.Credential.{Claim, Credential}

abbrev pub strings_of : List Data → List (List ℕ)
strings_of ds = filter_map as_str ds

-- ---- claims (section 6.3)

abbrev pub claim_of : Data → Claim
claim_of c = record {
  path = filter_map step_of (elements_at (codes "path") c);
  values = option_map scalars_of (get (codes "values") c);
}

abbrev pub claims_of : List Data → List Claim
claims_of cs = map claim_of cs

-- ---- claim sets (sections 6.1 and 6.4.1)

-- the place of the first claim that has the id s, where the first of all is at place n
abbrev pub claim_from : ℕ → List ℕ → List Data → Option ℕ
claim_from n s [] = None
claim_from n s (c ∷ cs) = if is_named s c then Some n else claim_from (n + 1) s cs

abbrev pub claim_place : List Data → Data → Option ℕ
claim_place cs name = option_and_then (λ s. claim_from 0 s cs) (as_str name)

abbrev pub claim_places : List Data → List Data → List ℕ
claim_places cs names = filter_map (claim_place cs) names

abbrev pub given_sets : List Data → List Data → List (List ℕ)
given_sets cs sets = map (λ s. claim_places cs (elements_of s)) sets

-- those that are given, and else one of all claims
abbrev pub sets_among : List Data → List Data → List (List ℕ)
sets_among cs sets = if is_empty sets then range_with_len 0 (length cs) ∷ [] else given_sets cs sets

abbrev pub sets_of : Data → List (List ℕ)
sets_of q = sets_among (elements_at (codes "claims") q) (elements_at (codes "claim_sets") q)

-- ---- credential queries (section 6.1)

abbrev pub format_of : Data → Option Format
format_of q =
    if has_format (codes "dc+sd-jwt") q then Some SdJwt
    else (if has_format (codes "mso_mdoc") q then Some Mdoc else None)

-- the types that `meta` allows (annex B.2.3 and B.3.5)
abbrev pub kinds_in : Option Format → Data → Option (List (List ℕ))
kinds_in None meta = None
kinds_in (Some SdJwt) meta = option_map (λ k. strings_of (elements_of k)) (get (codes "vct_values") meta)
kinds_in (Some Mdoc) meta = option_map (λ k. k ∷ []) (text_at (codes "doctype_value") meta)

abbrev pub kinds_of : Data → Option (List (List ℕ))
kinds_of q = option_and_then (kinds_in (format_of q)) (get (codes "meta") q)

abbrev pub credential_of : Data → Credential
credential_of q = record {
  id = unwrap_or (text_at (codes "id") q) [];
  format = format_of q;
  kinds = kinds_of q;
  multiple = flag_at (codes "multiple") false q;
  binding = flag_at (codes "require_cryptographic_holder_binding") true q;
  claims = claims_of (elements_at (codes "claims") q);
  sets = sets_of q;
}

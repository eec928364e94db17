-- The 22 rules of a query as tests about its JSON value, and the least of them that is broken (OpenID4VP 1.0,
-- section 6). The limits are this product's own: 16 credential queries, 64 claims and 32 claim sets in each,
-- 16 credential sets of 16 options.
use Rattle.std.specs.Prelude.{ℕ, Bool, false, true, not, ◌&&◌, ◌==◌, nat_lt, nat_le, is_some, is_none, List}
use Rattle.std.specs.Prelude.{[], ◌∷◌, map, length, codes, Option, if◌then◌else◌}
use Rattle.std.specs.Option.{option_map_or}
use Rattle.std.specs.List.{list_all}
use Rattle.std.specs.Str.{bytes_eq}
use Rattle.serde_json.specs.Data.{Data}
use Rattle.serde_json.specs.Find.{get, as_bool}
use Rattle.base_forms.specs.Rules.{rule, first, least}
use Rattle.json_forms.specs.Look.{elements_of, is_empty, text_at, elements_at, is_wrong, is_text, is_object}
use Rattle.json_forms.specs.Look.{are_texts, are_objects, is_text_list, are_text_lists}
use Rattle.claim_path.specs.Read.{path_rule, values_rule}
use Rattle.dcql_rules.specs.Ids.{all_have_right_ids, are_right_ids, all_have_ids, has_equal_ids}
use Rattle.dcql_rules.specs.Ids.{knows_all_lists}

abbrev pub is_boolean : Data → Bool
is_boolean d = is_some (as_bool d)

-- ---- a claim, of a mobile document or not: rules 14 to 16

-- the path is missing or refused
abbrev pub is_wrong_path : Option Data → Bool
is_wrong_path path = option_map_or (λ p. is_some (path_rule p)) path true

-- a list of two strings: a namespace and an element's name
abbrev pub is_two_strings : Data → Bool
is_two_strings d = (length (elements_of d) == 2) && are_texts (elements_of d)

abbrev pub is_two_names : Option Data → Bool
is_two_names path = option_map_or is_two_strings path false

abbrev pub are_right_values : Data → Bool
are_right_values v = is_none (values_rule v)

abbrev pub claim_rule : Bool → Data → Option ℕ
claim_rule document c = first
    (rule 14 (is_wrong_path (get (codes "path") c))
    ∷ rule 15 (document && not (is_two_names (get (codes "path") c)))
    ∷ rule 16 (is_wrong are_right_values (get (codes "values") c))
    ∷ [])

abbrev pub least_claim_rule : Bool → List Data → Option ℕ
least_claim_rule document cs = least (map (claim_rule document) cs)

-- ---- a credential query: rules 5 to 20

abbrev pub has_format : List ℕ → Data → Bool
has_format name q = option_map_or (bytes_eq name) (text_at (codes "format") q) false

-- the member of `meta` that names types, by the format, is there and not of its form
abbrev pub is_wrong_kind : Data → Data → Bool
is_wrong_kind q meta =
    if has_format (codes "dc+sd-jwt") q then is_wrong is_text_list (get (codes "vct_values") meta)
    else (if has_format (codes "mso_mdoc") q
    then is_wrong is_text (get (codes "doctype_value") meta)
    else false)

abbrev pub is_meta : Data → Data → Bool
is_meta q meta = is_object meta && not (is_wrong_kind q meta)

-- rules 5 to 9: all but claims and claim sets
abbrev pub header_rule : Data → Option ℕ
header_rule q = first
    (rule 5 (is_none (text_at (codes "format") q))
    ∷ rule 6 (is_wrong is_boolean (get (codes "multiple") q))
    ∷ rule 7 (is_wrong is_boolean (get (codes "require_cryptographic_holder_binding") q))
    ∷ rule 8 (is_some (get (codes "trusted_authorities") q))
    ∷ rule 9 (is_wrong (is_meta q) (get (codes "meta") q))
    ∷ [])

-- a list, not empty, of objects
abbrev pub is_object_list : Data → Bool
is_object_list d = not (is_empty (elements_of d)) && are_objects (elements_of d)

-- rules 10 to 16: the claims
abbrev pub claims_rule : Data → Option ℕ
claims_rule q =
    let claims = elements_at (codes "claims") q in
    first
    (rule 10 (is_wrong is_object_list (get (codes "claims") q))
    ∷ rule 11 (nat_lt 64 (length claims))
    ∷ rule 12 (not (are_right_ids claims))
    ∷ rule 13 (has_equal_ids claims)
    ∷ least_claim_rule (has_format (codes "mso_mdoc") q) claims
    ∷ [])

-- beside `claims`, a list, not empty, of lists, not empty, of strings
abbrev pub is_set_list : Data → Data → Bool
is_set_list q sets = is_some (get (codes "claims") q)
    && (not (is_empty (elements_of sets)) && are_text_lists (elements_of sets))

-- rules 17 to 20: the claim sets
abbrev pub sets_rule : Data → Option ℕ
sets_rule q =
    let claims = elements_at (codes "claims") q in
    let sets = elements_at (codes "claim_sets") q in
    first
    (rule 17 (is_wrong (is_set_list q) (get (codes "claim_sets") q))
    ∷ rule 18 (nat_lt 32 (length sets))
    ∷ rule 19 (is_some (get (codes "claim_sets") q) && not (all_have_ids claims))
    ∷ rule 20 (not (knows_all_lists claims sets))
    ∷ [])

abbrev pub credential_rule : Data → Option ℕ
credential_rule q = first (header_rule q ∷ claims_rule q ∷ sets_rule q ∷ [])

abbrev pub least_credential_rule : List Data → Option ℕ
least_credential_rule qs = least (map credential_rule qs)

-- ---- the credential sets: rules 21 and 22

-- one to 16
abbrev pub is_few : List Data → Bool
is_few ds = not (is_empty ds) && nat_le (length ds) 16

abbrev pub is_option_list : Data → Bool
is_option_list d = is_few (elements_of d) && are_text_lists (elements_of d)

abbrev pub is_credential_set : Data → Bool
is_credential_set d = option_map_or is_option_list (get (codes "options") d) false
    && not (is_wrong is_boolean (get (codes "required") d))

abbrev pub are_credential_sets : List Data → Bool
are_credential_sets ds = list_all is_credential_set ds

abbrev pub is_credential_set_list : Data → Bool
is_credential_set_list d = is_few (elements_of d) && are_credential_sets (elements_of d)

-- each name in each option of each credential set is the id of a credential query
abbrev pub knows_all_options : List Data → List Data → Bool
knows_all_options qs sets = list_all (λ s. knows_all_lists qs (elements_at (codes "options") s)) sets

-- ---- the query

-- the least rule that is broken
abbrev pub query_rule : Data → Option ℕ
query_rule d =
    let queries = elements_at (codes "credentials") d in
    first
    (rule 1 (is_empty queries)
    ∷ rule 2 (nat_lt 16 (length queries))
    ∷ rule 3 (not (all_have_right_ids queries))
    ∷ rule 4 (has_equal_ids queries)
    ∷ least_credential_rule queries
    ∷ rule 21 (is_wrong is_credential_set_list (get (codes "credential_sets") d))
    ∷ rule 22 (not (knows_all_options queries (elements_at (codes "credential_sets") d)))
    ∷ [])

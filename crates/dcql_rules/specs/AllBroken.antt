-- The numbers of all rules that a query breaks, wherever it breaks them (OpenID4VP 1.0, section 6). A query
-- is refused by the least of them.
use Rattle.std.specs.Prelude.{ℕ, Bool, not, ◌&&◌, nat_lt, is_some, is_none, List, ◌++◌, length, codes}
use Rattle.std.specs.List.{flat_map}
use Rattle.serde_json.specs.Data.{Data}
use Rattle.serde_json.specs.Find.{get}
use Rattle.base_forms.specs.Rules.{broken}
use Rattle.json_forms.specs.Look.{is_empty, text_at, elements_at, is_wrong}
use Rattle.dcql_rules.specs.Ids.{all_have_right_ids, are_right_ids, all_have_ids, has_equal_ids}
use Rattle.dcql_rules.specs.Ids.{knows_all_lists}
use Rattle.dcql_rules.specs.Rules.{is_wrong_path, is_two_names, are_right_values, has_format, is_boolean}
use Rattle.dcql_rules.specs.Rules.{is_meta, is_object_list, is_set_list, is_credential_set_list}
use Rattle.dcql_rules.specs.Rules.{knows_all_options}

-- by one claim, of a mobile document or not
abbrev pub broken_by_claim : Bool → Data → List ℕ
broken_by_claim document c =
    broken 14 (is_wrong_path (get (codes "path") c))
    ++ (broken 15 (document && not (is_two_names (get (codes "path") c)))
    ++ broken 16 (is_wrong are_right_values (get (codes "values") c)))

-- by one credential query
abbrev pub broken_by_credential : Data → List ℕ
broken_by_credential q =
    let claims = elements_at (codes "claims") q in
    let sets = elements_at (codes "claim_sets") q in
    (broken 5 (is_none (text_at (codes "format") q))
    ++ (broken 6 (is_wrong is_boolean (get (codes "multiple") q))
    ++ (broken 7 (is_wrong is_boolean (get (codes "require_cryptographic_holder_binding") q))
    ++ (broken 8 (is_some (get (codes "trusted_authorities") q))
    ++ broken 9 (is_wrong (is_meta q) (get (codes "meta") q))))))
    ++ ((broken 10 (is_wrong is_object_list (get (codes "claims") q))
    ++ (broken 11 (nat_lt 64 (length claims))
    ++ (broken 12 (not (are_right_ids claims))
    ++ (broken 13 (has_equal_ids claims)
    ++ flat_map (broken_by_claim (has_format (codes "mso_mdoc") q)) claims))))
    ++ (broken 17 (is_wrong (is_set_list q) (get (codes "claim_sets") q))
    ++ (broken 18 (nat_lt 32 (length sets))
    ++ (broken 19 (is_some (get (codes "claim_sets") q) && not (all_have_ids claims))
    ++ broken 20 (not (knows_all_lists claims sets))))))

-- by a query
abbrev pub broken_by : Data → List ℕ
broken_by d =
    let queries = elements_at (codes "credentials") d in
    broken 1 (is_empty queries)
    ++ (broken 2 (nat_lt 16 (length queries))
    ++ (broken 3 (not (all_have_right_ids queries))
    ++ (broken 4 (has_equal_ids queries)
    ++ (flat_map broken_by_credential queries
    ++ (broken 21 (is_wrong is_credential_set_list (get (codes "credential_sets") d))
    ++ broken 22 (not (knows_all_options queries (elements_at (codes "credential_sets") d))))))))

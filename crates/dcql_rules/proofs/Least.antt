-- The rule that is answered is the least of all that are broken.
use Rattle.std.proofs.lemmas.Bool.Decides.{nat_tests}
use Rattle.std.proofs.lemmas.List.{length-map}
use Rattle.std.proofs.Common.{◌≡◌, Option, ◌<◌, ◌≤◌, Bool, true, false, List, [], ◌∷◌, map, arith, refl, sym}
use Rattle.std.proofs.Common.{ap, ◌∙◌}
use Rattle.std.specs.Prelude.{ℕ, codes, not, ◌&&◌, ◌==◌, is_none, is_some, nat_lt, length, None, Some}
use Rattle.std.specs.List.{flat_map}
use Rattle.serde_json.specs.Data.{Data}
use Rattle.serde_json.specs.Find.{get}
use Rattle.base_forms.specs.Rules.{rule, first, least, lowest}
use Rattle.base_forms.proofs.Lowest.{IsWithin, lowest-none, rule_before, last, table, alone, joined, parts}
use Rattle.base_forms.proofs.Lowest.{least_is_lowest, least_within}
use Rattle.json_forms.specs.Look.{is_empty, text_at, elements_at, is_wrong}
use Rattle.dcql_rules.specs.Ids.{all_have_right_ids, are_right_ids, all_have_ids, has_equal_ids}
use Rattle.dcql_rules.specs.Ids.{knows_all_lists}
use Rattle.dcql_rules.specs.Rules.{is_wrong_path, is_two_names, are_right_values, is_boolean, is_meta}
use Rattle.dcql_rules.specs.Rules.{is_object_list, is_set_list, is_credential_set_list, knows_all_options}
use Rattle.dcql_rules.specs.Rules.{claim_rule, has_format, credential_rule, query_rule}
use Rattle.dcql_rules.specs.AllBroken.{broken_by_claim, broken_by_credential, broken_by}

claim_gives : (document : Bool) (c : Data) → (claim_rule document c ≡ lowest (broken_by_claim document c))
    × IsWithin 14 16 (claim_rule document c)
claim_gives document c =
    let t = rule_before 14 (is_wrong_path (get (codes "path") c))
    (rule_before 15 (document && not (is_two_names (get (codes "path") c)))
    (last 16 (is_wrong are_right_values (get (codes "values") c))) (omega arith)) (omega arith) in
    (t.is_lowest, t.within)

credential_gives : (q : Data) → (credential_rule q ≡ lowest (broken_by_credential q))
    × IsWithin 5 20 (credential_rule q)
credential_gives q =
    let claims = elements_at (codes "claims") q in
    let document = has_format (codes "mso_mdoc") q in
    let each = parts (claim_rule document) (broken_by_claim document) 14 16 (omega arith)
    (λ c. (claim_gives document c).0) (λ c. (claim_gives document c).1) claims in
    let header =
    rule_before 5 (is_none (text_at (codes "format") q))
    (rule_before 6 (is_wrong is_boolean (get (codes "multiple") q))
    (rule_before 7 (is_wrong is_boolean (get (codes "require_cryptographic_holder_binding") q))
    (rule_before 8 (is_some (get (codes "trusted_authorities") q))
    (last 9 (is_wrong (is_meta q) (get (codes "meta") q))) (omega arith)) (omega arith)) (omega arith))
    (omega arith) in
    let of_claims =
    rule_before 10 (is_wrong is_object_list (get (codes "claims") q))
    (rule_before 11 (nat_lt 64 (length claims))
    (rule_before 12 (not (are_right_ids claims))
    (rule_before 13 (has_equal_ids claims) each (omega arith)) (omega arith)) (omega arith)) (omega arith) in
    let of_sets =
    rule_before 17 (is_wrong (is_set_list q) (get (codes "claim_sets") q))
    (rule_before 18 (nat_lt 32 (length (elements_at (codes "claim_sets") q)))
    (rule_before 19 (is_some (get (codes "claim_sets") q) && not (all_have_ids claims))
    (last 20 (not (knows_all_lists claims (elements_at (codes "claim_sets") q)))) (omega arith))
    (omega arith)) (omega arith) in
    let t = table header (table of_claims (alone of_sets) (omega arith)) (omega arith) in
    (t.is_lowest, t.within)

-- the least rule that is broken anywhere in the query
pub query_rule-lowest : (d : Data) → query_rule d ≡ lowest (broken_by d)
query_rule-lowest d =
    let queries = elements_at (codes "credentials") d in
    let sets = rule_before 21 (is_wrong is_credential_set_list (get (codes "credential_sets") d))
    (last 22 (not (knows_all_options queries (elements_at (codes "credential_sets") d)))) (omega arith) in
    let each = joined (least (map credential_rule queries)) (flat_map broken_by_credential queries) 5 20
    (least_is_lowest credential_rule broken_by_credential (λ q. (credential_gives q).0) queries)
    (least_within credential_rule 5 20 (λ q. (credential_gives q).1) queries) (omega arith) sets
    (omega arith) in
    let t =
    rule_before 1 (is_empty queries)
    (rule_before 2 (nat_lt 16 (length queries))
    (rule_before 3 (not (all_have_right_ids queries))
    (rule_before 4 (has_equal_ids queries) each (omega arith)) (omega arith)) (omega arith)) (omega arith) in
    t.is_lowest

-- where no rule is answered none is broken
pub unbroken : (d : Data) → query_rule d ≡ None → broken_by d ≡ []
unbroken d e = lowest-none (broken_by d) (sym (query_rule-lowest d) ∙ e)

pub least_broken : (d : Data) (n : ℕ) → query_rule d ≡ Some n → lowest (broken_by d) ≡ Some n
least_broken d n e = sym (query_rule-lowest d) ∙ e

first_two : (m n : ℕ) (a b : Bool) (rs : List (Option ℕ)) → first (rule m a ∷ rule n b ∷ rs) ≡ None
    → (a ≡ false) × (b ≡ false)
unfolding rule
first_two m n true b rs e = absurd cc
first_two m n false true rs e = absurd cc
first_two m n false false rs e = (refl, refl)

some_tested : (n : ℕ) → (n == 0) ≡ false → 0 < n
some_tested n e = grind (arith, nat_tests)

few_tested : (n : ℕ) → nat_lt 16 n ≡ false → n ≤ 16
few_tested n e = grind (arith, nat_tests)

-- where no rule is answered there are one to 16 credential queries
pub few_queries : (d : Data) → query_rule d ≡ None
    → (0 < length (elements_at (codes "credentials") d)) × (length (elements_at (codes "credentials") d) ≤ 16)
few_queries d e =
    let tests = first_two 1 2 _ _ _ e in
    (some_tested _ tests.0, few_tested _ tests.1)

-- so there are in a list of values that means them
pub few_values : {A : Type 0} (d : Data) (f : A → Data) (xs : List A)
    → map f xs ≡ elements_at (codes "credentials") d → query_rule d ≡ None
    → (0 < length xs) × (length xs ≤ 16)
few_values d f xs h e =
    let few = few_queries d e in
    let same : length xs ≡ length (elements_at (codes "credentials") d) = sym (length-map xs f)
    ∙ ap length h in
    (omega (arith, few.0, same), omega (arith, few.1, same))

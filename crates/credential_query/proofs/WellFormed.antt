-- A credential query that breaks no rule means a well-formed one.
use Rattle.std.proofs.lemmas.List.{length-map}
use Rattle.std.proofs.Common.{◌≡◌, ℕ, zero, suc, ◌+◌, ◌<◌, ◌≤◌, Bool, true, false, not, is_some, nat_lt, List}
use Rattle.std.proofs.Common.{[], ◌∷◌, length, Option, Some, None, option_map, option_and_then, IfSome, refl}
use Rattle.std.proofs.Common.{sym, subst, arith, codes, filter_map, if◌then◌else◌}
use Rattle.std.specs.Prelude.{unwrap_or}
use Rattle.std.specs.Option.{option_map_or}
use Rattle.std.specs.List.{AllByRecursion, range_with_len, cons_option}
use Rattle.serde_json.specs.Data.{Data}
use Rattle.serde_json.specs.Find.{get, as_str}
use Rattle.json_forms.specs.Look.{elements_of, is_empty, elements_at, is_wrong}
use Rattle.claim_path.specs.Path.{IsPath, IsValues}
use Rattle.claim_path.specs.Read.{step_of, path_rule, values_rule, scalars_of}
use Rattle.claim_path.proofs.Valid.{rest_unbroken, not_false, some_tested, few_tested}
use Rattle.claim_path.proofs.Valid.{valid_path, valid_values}
use Rattle.dcql_rules.specs.Ids.{is_id, is_id_text, is_named}
use Rattle.dcql_rules.specs.Rules.{is_wrong_path, are_right_values}
use Rattle.credential_query.specs.WellFormed.{IsClaim, IsCredential}
use Rattle.credential_query.specs.Meaning.{claim_of, claims_of, claim_from, claim_place, claim_places}
use Rattle.credential_query.specs.Meaning.{given_sets, sets_among, sets_of, credential_of}
use Rattle.credential_query.specs.Readable.{is_readable_claim, are_readable_claims, is_readable_credential}
use Rattle.credential_query.proofs.Readable.{both_true, none_from, claims_of_credential, sets_of_credential}
use Rattle.credential_query.proofs.Readable.{its_claims_readable, of_readable}

pub not_true : (b : Bool) → not b ≡ true → b ≡ false
not_true true e = absurd cc
not_true false e = refl

-- ---- claims

path_within : (o : Option Data) → not (is_wrong_path o) ≡ true
    → IsPath (filter_map step_of (option_map_or elements_of o []))
path_within None e = absurd cc
path_within (Some p) e = valid_path p (unbroken (path_rule p) e) where
  unbroken : (r : Option ℕ) → not (is_some r) ≡ true → r ≡ None
  unbroken None h = refl
  unbroken (Some n) h = absurd cc

values_within : (o : Option Data) → not (is_wrong are_right_values o) ≡ true
    → IfSome (option_map scalars_of o) IsValues
values_within None e = tt
values_within (Some v) e = valid_values v (none_from (values_rule v) (not_false _ (not_true _ e)))

claims_well_formed : (cs : List Data) → are_readable_claims cs ≡ true → AllByRecursion IsClaim (claims_of cs)
claims_well_formed [] e = tt
claims_well_formed (c ∷ cs) e =
    let b = both_true (is_readable_claim c) (are_readable_claims cs) e in
    let p = both_true (not (is_wrong_path (get (codes "path") c)))
    (not (is_wrong are_right_values (get (codes "values") c))) b.0 in (
      (path_within (get (codes "path") c) p.0, values_within (get (codes "values") c) p.1),
      claims_well_formed cs b.1,
    )

-- ---- claim sets

range_below : (n a k : ℕ) → a + k ≤ n → AllByRecursion (λ i. i < n) (range_with_len a k)
range_below n a zero h = tt
range_below n a (suc k) h = (omega arith, range_below n (a + 1) k (omega arith))

found_below : (n k : ℕ) (s : List ℕ) (cs : List Data) → k + length cs ≤ n → (i : ℕ)
    → claim_from k s cs ≡ Some i → i < n
found_below n k s [] h i e = absurd cc
found_below n k s (c ∷ cs) h i e = elim (is_named s c) as
    (λ b. (if b then Some k else claim_from (k + 1) s cs) ≡ Some i → i < n) [
      | true ↦ λ f. let same : k ≡ i = some_same k i f in omega arith
      | false ↦ λ f. found_below n (k + 1) s cs (omega (arith, h)) i f
    ] e where
      some_same : (x y : ℕ) → Some x ≡ Some y → x ≡ y
      some_same x y g = cc

place_below : (cs : List Data) (r : Option (List ℕ)) (i : ℕ)
    → option_and_then (λ s. claim_from 0 s cs) r ≡ Some i → i < length cs
place_below cs None i e = absurd cc
place_below cs (Some s) i e = found_below (length cs) 0 s cs (omega arith) i e

kept_below : (n : ℕ) (r : Option ℕ) (is : List ℕ) → ((i : ℕ) → r ≡ Some i → i < n)
    → AllByRecursion (λ i. i < n) is → AllByRecursion (λ i. i < n) (cons_option r is)
kept_below n None is h all = all
kept_below n (Some i) is h all = (h i refl, all)

places_below : (cs names : List Data) → AllByRecursion (λ i. i < length cs) (claim_places cs names)
places_below cs [] = tt
places_below cs (d ∷ names) = kept_below (length cs) (claim_place cs d) (claim_places cs names)
    (place_below cs (as_str d)) (places_below cs names)

sets_below : (cs sets : List Data) → AllByRecursion (AllByRecursion (λ i. i < length cs)) (given_sets cs sets)
sets_below cs [] = tt
sets_below cs (s ∷ sets) = (places_below cs (elements_of s), sets_below cs sets)

record AreClaimSets (n : ℕ) (sets : List (List ℕ)) : Type 0 where
  pub some : 0 < length sets
  pub few : length sets ≤ 32
  pub each : AllByRecursion (AllByRecursion (λ i. i < n)) sets

sets_well_formed : (cs sets : List Data) → length sets ≤ 32 → AreClaimSets (length cs) (sets_among cs sets)
sets_well_formed cs sets few = elim (is_empty sets) as (λ b. b ≡ is_empty sets
    → AreClaimSets (length cs) (if b then range_with_len 0 (length cs) ∷ [] else given_sets cs sets)) [
      | true ↦ λ e. record {
        some = omega arith;
        few = omega arith;
        each =
            (range_below (length cs) 0 (length cs) (omega arith), tt);
      }
      | false ↦ λ e.
          let same : length (given_sets cs sets) ≡ length sets = length-map sets _ in
          record {
            some = omega (arith, same, some_tested (length sets) (sym e));
            few =
                omega (arith, same, few);
            each = sets_below cs sets;
          }
    ] refl

-- ---- credential queries

id_within : (r : Option (List ℕ)) → option_map_or is_id r false ≡ true → is_id (unwrap_or r []) ≡ true
id_within None e = absurd cc
id_within (Some s) e = e

has_id_within : (o : Option Data) → option_map_or is_id_text o false ≡ true
    → is_id (unwrap_or (option_and_then as_str o) []) ≡ true
has_id_within None e = absurd cc
has_id_within (Some d) e = id_within (as_str d) e

pub credential_well_formed : (q : Data) → is_readable_credential q ≡ true → IsCredential (credential_of q)
credential_well_formed q e =
    let b = of_readable q e in
    let unbroken = b.1 in
    let claims = elements_at (codes "claims") q in
    let sets = elements_at (codes "claim_sets") q in
    let many =
    (rest_unbroken 11 (nat_lt 64 (length claims)) _
    (rest_unbroken 10 _ _ (claims_of_credential q unbroken)).1).0 in
    let many_sets =
    (rest_unbroken 18 (nat_lt 32 (length sets)) _
    (rest_unbroken 17 _ _ (sets_of_credential q unbroken)).1).0 in
    let same : length (claims_of claims) ≡ length claims = length-map claims claim_of in
    let formed = sets_well_formed claims sets (few_tested 32 (length sets) many_sets) in
    record {
      id = has_id_within (get (codes "id") q) b.0;
      claims = claims_well_formed claims (its_claims_readable q unbroken);
      few_claims = omega (arith, same, few_tested 64 (length claims) many);
      some_sets = formed.some;
      few_sets = formed.few;
      sets = subst (λ n. AllByRecursion (AllByRecursion (λ i. i < n)) (sets_of q)) (sym same) formed.each;
    }

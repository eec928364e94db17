-- What breaks no rule means a well-formed query.
use Rattle.std.proofs.lemmas.List.{length-map}
use Rattle.std.proofs.Math.Nat.{pow-suc}
use Rattle.std.proofs.Common.{◌≡◌, ℕ, suc, ◌+◌, ◌*◌, ◌^◌, ◌<◌, ◌≤◌, ◌⊎◌, inl, inr, Bool, true, false}
use Rattle.std.proofs.Common.{not, ◌&&◌, ◌||◌, nat_lt, nat_le, List, [], ◌∷◌, map, length, Option}
use Rattle.std.proofs.Common.{Some, None, option_map, option_and_then, IfSome, refl, sym, ◌∙◌, subst, arith}
use Rattle.std.proofs.Common.{codes, if◌then◌else◌}
use Rattle.std.specs.Prelude.{unwrap_or}
use Rattle.std.specs.Option.{option_map_or}
use Rattle.std.specs.List.{AllByRecursion}
use Rattle.std.specs.Str.{bytes_eq}
use Rattle.std.proofs.lemmas.Bool.Decides.{nat_tests}
use Rattle.serde_json.specs.Data.{Data}
use Rattle.serde_json.specs.Find.{get, as_str}
use Rattle.base_forms.specs.Texts.{is_among as is_listed, differ}
use Rattle.base_forms.proofs.Differing.{bytes_eq-flip}
use Rattle.json_forms.specs.Look.{elements_of, is_empty, text_at, elements_at, is_wrong, is_text_list}
use Rattle.json_forms.specs.Look.{are_text_lists, are_texts}
use Rattle.claim_path.proofs.Valid.{rest_unbroken, parts_unbroken, neither, not_false, some_tested}
use Rattle.claim_path.proofs.Valid.{few_tested}
use Rattle.dcql_rules.specs.Ids.{is_id, is_id_text, has_id, all_have_right_ids, is_named, is_known}
use Rattle.dcql_rules.specs.Ids.{has_equal_ids, knows_all, knows_all_lists}
use Rattle.dcql_rules.specs.Rules.{least_credential_rule, is_few}
use Rattle.dcql_rules.specs.Rules.{is_option_list, is_credential_set, are_credential_sets}
use Rattle.dcql_rules.specs.Rules.{is_credential_set_list, knows_all_options, query_rule}
use Rattle.credential_query.specs.WellFormed.{IsCredential}
use Rattle.credential_query.specs.Meaning.{credential_of}
use Rattle.credential_query.specs.Readable.{is_readable_credential}
use Rattle.credential_query.proofs.Readable.{both_true}
use Rattle.credential_query.proofs.WellFormed.{not_true, credential_well_formed}
use Rattle.dcql_query.specs.Query.{CredentialSet, sets_in}
use Rattle.dcql_query.specs.WellFormed.{IsOption, IsCredentialSet, IsQuery}
use Rattle.dcql_query.specs.Meaning.{credentials_of, is_among}
use Rattle.dcql_query.specs.Meaning.{option_bits, options_of, credential_sets_of, meaning_of}
use Rattle.dcql_query.specs.code.Readable.{are_readable_credentials}
use Rattle.dcql_query.proofs.Readable.{credentials_readable}

credentials_well_formed : (qs : List Data) → are_readable_credentials qs ≡ true
    → AllByRecursion IsCredential (credentials_of qs)
credentials_well_formed [] e = tt
credentials_well_formed (q ∷ qs) e =
    let b = both_true (is_readable_credential q) (are_readable_credentials qs) e in
    (credential_well_formed q b.0, credentials_well_formed qs b.1)

-- ---- ids

abbrev ids_of : List Data → List (List ℕ)
ids_of qs = map (λ c. c.id) (credentials_of qs)

other_id : (s : List ℕ) (o : Option Data) → option_map_or is_id_text o false ≡ true
    → option_map_or (bytes_eq s) (option_and_then as_str o) false ≡ false
    → bytes_eq (unwrap_or (option_and_then as_str o) []) s ≡ false
other_id s None h e = absurd cc
other_id s (Some d) h e = other (as_str d) h e where
  other : (r : Option (List ℕ)) → option_map_or is_id r false ≡ true
      → option_map_or (bytes_eq s) r false ≡ false → bytes_eq (unwrap_or r []) s ≡ false
  other None g f = absurd cc
  other (Some t) g f = bytes_eq-flip t s ∙ f

neither_are : (a b : Bool) → a ≡ false → b ≡ false → (a || b) ≡ false
neither_are a b h k = cc

not_listed : (s : List ℕ) (qs : List Data) → all_have_right_ids qs ≡ true → is_known qs s ≡ false
    → is_listed s (ids_of qs) ≡ false
not_listed s [] h e = refl
not_listed s (q ∷ qs) h e =
    let b = both_true (has_id q) (all_have_right_ids qs) h in
    let n = neither (is_named s q) (is_known qs s) e in
    neither_are _ _ (other_id s (get (codes "id") q) b.0 n.0) (not_listed s qs b.1 n.1)

-- the first id is not among the others
first_differs : (o : Option Data) (qs : List Data) → option_map_or is_id_text o false ≡ true
    → all_have_right_ids qs ≡ true
    → option_map_or (is_known qs) (option_and_then as_str o) false ≡ false
    → is_listed (unwrap_or (option_and_then as_str o) []) (ids_of qs) ≡ false
first_differs None qs h k e = absurd cc
first_differs (Some d) qs h k e = differs (as_str d) h e where
  differs : (r : Option (List ℕ)) → option_map_or is_id r false ≡ true
      → option_map_or (is_known qs) r false ≡ false → is_listed (unwrap_or r []) (ids_of qs) ≡ false
  differs None g f = absurd cc
  differs (Some s) g f = not_listed s qs k f

and_rest : (a b : Bool) → a ≡ false → b ≡ true → (not a && b) ≡ true
and_rest a b h k = cc

ids_differ : (qs : List Data) → all_have_right_ids qs ≡ true → has_equal_ids qs ≡ false
    → differ (ids_of qs) ≡ true
ids_differ [] h e = refl
ids_differ (q ∷ qs) h e =
    let b = both_true (has_id q) (all_have_right_ids qs) h in
    let n = neither (option_map_or (is_known qs) (text_at (codes "id") q) false) (has_equal_ids qs) e in
    and_rest _ _ (first_differs (get (codes "id") q) qs b.0 b.1 n.0) (ids_differ qs b.1 n.1)

-- ---- options

bit_below : (a : Bool) (m p q : ℕ) → m < p → q ≡ p * 2 → (if a then 1 else 0) + 2 * m < q
bit_below true m p q h e = omega arith
bit_below false m p q h e = omega arith

bits_below : (names qs : List Data) → option_bits names qs < 2 ^ length qs
bits_below names [] = omega arith
bits_below names (q ∷ qs) = bit_below (is_among names q) (option_bits names qs) (2 ^ length qs)
    (2 ^ suc (length qs)) (bits_below names qs) (pow-suc 2 (length qs))

bit_set : (a : Bool) (m : ℕ) → a ≡ true → 0 < (if a then 1 else 0) + 2 * m
bit_set true m e = omega arith
bit_set false m e = absurd cc

higher_set : (a : Bool) (m : ℕ) → 0 < m → 0 < (if a then 1 else 0) + 2 * m
higher_set true m h = omega arith
higher_set false m h = omega arith

either : (a b : Bool) → (a || b) ≡ true → (a ≡ true) ⊎ (b ≡ true)
either true b e = inl refl
either false b e = inr e

-- an option is not zero that names a credential query
bits_some : (names qs : List Data) (s : List ℕ) → ((q : Data) → is_named s q ≡ true → is_among names q ≡ true)
    → is_known qs s ≡ true → 0 < option_bits names qs
bits_some names [] s h e = absurd cc
bits_some names (q ∷ qs) s h e = elim (either (is_named s q) (is_known qs s) e) [
  | inl here ↦ bit_set (is_among names q) (option_bits names qs) (h q here)
  | inr later ↦ higher_set (is_among names q) (option_bits names qs) (bits_some names qs s h later)
]

first_named : (r : Option (List ℕ)) (names : List Data) (qs : List Data) (n : Data) → as_str n ≡ r
    → option_map_or (is_known qs) r false ≡ true → 0 < option_bits (n ∷ names) qs
first_named None names qs n h e = absurd cc
first_named (Some s) names qs n h e = bits_some (n ∷ names) qs s (λ q k. rw h (rw k refl)) e

names_some : (names qs : List Data) → not (is_empty names) ≡ true → knows_all qs names ≡ true
    → 0 < option_bits names qs
names_some [] qs h e = absurd cc
names_some (n ∷ names) qs h e = first_named (as_str n) names qs n refl (both_true _ (knows_all qs names) e).0

options_well_formed : (qs os : List Data) → are_text_lists os ≡ true → knows_all_lists qs os ≡ true
    → AllByRecursion (IsOption (length qs)) (options_of qs os)
options_well_formed qs [] h e = tt
options_well_formed qs (o ∷ os) h e =
    let t = both_true (is_text_list o) (are_text_lists os) h in
    let k = both_true (knows_all qs (elements_of o)) (knows_all_lists qs os) e in
    let some = (both_true (not (is_empty (elements_of o))) (are_texts (elements_of o)) t.0).0 in (
      (names_some (elements_of o) qs some k.0, bits_below (elements_of o) qs),
      options_well_formed qs os t.1 k.1,
    )

few_within : (ds : List Data) → is_few ds ≡ true → (0 < length ds) × (length ds ≤ 16)
few_within ds e =
    let b = both_true (not (is_empty ds)) (nat_le (length ds) 16) e in
    (some_tested (length ds) (not_true _ b.0), grind (arith, nat_tests, b.1))

option_list_well_formed : (qs : List Data) (o : Option Data) (required : Bool)
    → option_map_or is_option_list o false ≡ true → knows_all_lists qs (option_map_or elements_of o []) ≡ true
    → IsCredentialSet (length qs) (record {
      options =
          options_of qs (option_map_or elements_of o []);
      required = required;
    })
option_list_well_formed qs None required h e = absurd cc
option_list_well_formed qs (Some d) required h e =
    let b = both_true (is_few (elements_of d)) (are_text_lists (elements_of d)) h in
    let few = few_within (elements_of d) b.0 in
    let same : length (options_of qs (elements_of d)) ≡ length (elements_of d) =
    length-map (elements_of d) _ in
    record {
      some = omega (arith, same, few.0);
      few = omega (arith, same, few.1);
      options =
          options_well_formed qs (elements_of d) b.1 e;
    }

credential_sets_well_formed : (qs ss : List Data) → are_credential_sets ss ≡ true
    → knows_all_options qs ss ≡ true
    → AllByRecursion (IsCredentialSet (length qs)) (credential_sets_of qs ss)
credential_sets_well_formed qs [] h e = tt
credential_sets_well_formed qs (s ∷ ss) h e =
    let a = both_true (is_credential_set s) (are_credential_sets ss) h in
    let k = both_true (knows_all_lists qs (elements_at (codes "options") s)) (knows_all_options qs ss) e in
    let o = both_true (option_map_or is_option_list (get (codes "options") s) false) _ a.0 in (
      option_list_well_formed qs (get (codes "options") s) _ o.0 k.0,
      credential_sets_well_formed qs ss a.1 k.1,
    )

record AreCredentialSets (n : ℕ) (ss : Option (List CredentialSet)) : Type 0 where
  pub some : IfSome ss (λ xs. 0 < length xs)
  pub few : length (unwrap_or ss []) ≤ 16
  pub each : AllByRecursion (IsCredentialSet n) (unwrap_or ss [])

set_list_well_formed : (qs : List Data) (o : Option Data) → is_wrong is_credential_set_list o ≡ false
    → knows_all_options qs (option_map_or elements_of o []) ≡ true
    → AreCredentialSets (length qs) (option_map (λ s. credential_sets_of qs (elements_of s)) o)
set_list_well_formed qs None h e = record { some = tt; few = omega arith; each = tt }
set_list_well_formed qs (Some d) h e =
    let b = both_true (is_few (elements_of d)) (are_credential_sets (elements_of d)) (not_false _ h) in
    let few = few_within (elements_of d) b.0 in
    let same : length (credential_sets_of qs (elements_of d)) ≡ length (elements_of d) =
    length-map (elements_of d) _ in
    record {
      some = omega (arith, same, few.0);
      few = omega (arith, same, few.1);
      each =
          credential_sets_well_formed qs (elements_of d) b.1 e;
    }

-- ---- the query

pub query_well_formed : (d : Data) → query_rule d ≡ None → IsQuery (meaning_of d)
query_well_formed d e =
    let qs = elements_at (codes "credentials") d in
    let a = rest_unbroken 1 (is_empty qs) _ e in
    let b = rest_unbroken 2 (nat_lt 16 (length qs)) _ a.1 in
    let i = rest_unbroken 3 (not (all_have_right_ids qs)) _ b.1 in
    let u = rest_unbroken 4 (has_equal_ids qs) _ i.1 in
    let l = parts_unbroken (least_credential_rule qs) _ u.1 in
    let s = rest_unbroken 21 (is_wrong is_credential_set_list (get (codes "credential_sets") d)) _ l.1 in
    let k = rest_unbroken 22 (not (knows_all_options qs (elements_at (codes "credential_sets") d))) _ s.1 in
    let ids = not_false _ i.0 in
    let same : length (credentials_of qs) ≡ length qs = length-map qs credential_of in
    let sets = set_list_well_formed qs (get (codes "credential_sets") d) s.0 (not_false _ k.0) in
    record {
      some = omega (arith, same, some_tested (length qs) a.0);
      few = omega (arith, same, few_tested 16 (length qs) b.0);
      credentials = credentials_well_formed qs (credentials_readable qs ids l.0);
      ids_differ = ids_differ qs ids u.0;
      some_sets = sets.some;
      few_sets = sets.few;
      sets = subst (λ n. AllByRecursion (IsCredentialSet n) (sets_in (meaning_of d))) (sym same) sets.each;
    }

-- The table of rules: what holds of bytes that break none of them, piece by piece, and back.
use Rattle.std.proofs.Common.{◌≡◌, ◌≤◌, ℕ, ltb, Bool, true, false, not, ◌||◌, List, [], ◌∷◌, Option, Some}
use Rattle.std.proofs.Common.{None, refl, ap, ◌∙◌}
use Rattle.std.specs.Prelude.{is_none}
use Rattle.std.specs.Option.{option_map_or}
use Rattle.std.specs.List.{list_any, list_all}
use Rattle.std.proofs.lemmas.Bool.{or_parts, or_from, ltb-false, le-ltb}
use Rattle.base_forms.specs.Hash.{mso_hash_named}
use Rattle.base_forms.specs.Rules.{rule, first}
use Rattle.base_forms.specs.declared.hash.HashName.{HashName}
use Rattle.cbor_core.specs.Views.{Span}
use Rattle.mdoc_items.specs.MapFields.{Entries}
use Rattle.mdoc_security.specs.MobileSecurityObject.{MobileSecurityObject, first_in, last_in, has_version}
use Rattle.mdoc_security.specs.MobileSecurityObject.{hash_of, has_wrong_key, security_object_rule}
use Rattle.mdoc_security.specs.DeviceKey.{device_key_in, is_key}
use Rattle.mdoc_items.specs.IssuerSignedItems.{Namespace, all_namespaces, item_count, most_items}
use Rattle.mdoc_view.specs.ItemRules.{elements_differ, lacks, deviates, any_item, digests_rule}
use Rattle.mdoc_view.specs.Refusal.{rule_of_namespaces, items_rule, rule_of_security_object}
use Rattle.mdoc_view.specs.Relation.{IsSound}
use Rattle.mdoc_view.proofs.Given.{NoFault}

rule_none : (n : ℕ) (b : Bool) → rule n b ≡ None → b ≡ false
unfolding rule
rule_none n true e = absurd cc
rule_none n false e = refl

none_rule : (n : ℕ) (b : Bool) → b ≡ false → rule n b ≡ None
unfolding rule
none_rule n b e = rw e refl

pub first_none : (r : Option ℕ) (rs : List (Option ℕ)) → first (r ∷ rs) ≡ None
    → (r ≡ None) × (first rs ≡ None)
first_none None rs e = (refl, e)
first_none (Some n) rs e = absurd cc

pub none_first : (r : Option ℕ) (rs : List (Option ℕ)) → r ≡ None → first rs ≡ None → first (r ∷ rs) ≡ None
none_first r rs e f = rw e f

is_true : (b : Bool) → not b ≡ false → b ≡ true
is_true true e = refl
is_true false e = cc

not_none : {A : Type 0} (o : Option A) → is_none o ≡ false → (a : A) × (o ≡ Some a)
not_none None e = absurd (cc)
not_none (Some a) e = (a, refl)

-- ---- rules 11 to 13

no_fault : (hash : HashName) (digests : Entries) (ns : List Namespace) → digests_rule hash digests ns ≡ None
    → NoFault hash digests ns
unfolding digests_rule
no_fault hash digests ns e =
    let r11 = rule 11 (not (list_all elements_differ ns)) in
    let r12 = rule 12 (list_any (any_item (lacks digests)) ns) in
    let r13 = rule 13 (list_any (any_item (deviates hash digests)) ns) in
    let a = first_none r11 (r12 ∷ r13 ∷ []) e in
    let b = first_none r12 (r13 ∷ []) a.1 in
    let c = first_none r13 [] b.1 in
    record {
      elements = is_true (list_all elements_differ ns) (rule_none 11 (not (list_all elements_differ ns)) a.0);
      none_lacks = rule_none 12 (list_any (any_item (lacks digests)) ns) b.0;
      none_deviates = rule_none 13 (list_any (any_item (deviates hash digests)) ns) c.0;
    }

fault_none : (hash : HashName) (digests : Entries) (ns : List Namespace) → NoFault hash digests ns
    → digests_rule hash digests ns ≡ None
unfolding digests_rule
fault_none hash digests ns f =
    let r11 = rule 11 (not (list_all elements_differ ns)) in
    let r12 = rule 12 (list_any (any_item (lacks digests)) ns) in
    let r13 = rule 13 (list_any (any_item (deviates hash digests)) ns) in
    none_first r11 (r12 ∷ r13 ∷ []) (none_rule 11 (not (list_all elements_differ ns)) (ap not f.elements))
    (none_first r12 (r13 ∷ []) (none_rule 12 (list_any (any_item (lacks digests)) ns) f.none_lacks)
    (none_first r13 [] (none_rule 13 (list_any (any_item (deviates hash digests)) ns) f.none_deviates) refl))

-- ---- rules 9 to 13

abbrev pub ItemsRead : MobileSecurityObject → Entries → Type 0
ItemsRead o es =
    (item_count es ≤ most_items)
    × ((ns : List Namespace) × (all_namespaces es ≡ Some ns) × NoFault (hash_of o) o.digests ns)

namespaces_read : (o : MobileSecurityObject) (p : Option (List Namespace)) → rule_of_namespaces o p ≡ None
    → (ns : List Namespace) × (p ≡ Some ns) × NoFault (hash_of o) o.digests ns
namespaces_read o None e = absurd cc
namespaces_read o (Some ns) e = (ns, refl, no_fault (hash_of o) o.digests ns e)

items_read : (o : MobileSecurityObject) (es : Entries) → items_rule o es ≡ None → ItemsRead o es
unfolding items_rule
items_read o es e =
    let a = first_none (rule 9 (ltb most_items (item_count es)))
    (rule_of_namespaces o (all_namespaces es) ∷ []) e in (
      ltb-false most_items (item_count es) (rule_none 9 (ltb most_items (item_count es)) a.0),
      namespaces_read o (all_namespaces es) (first_none (rule_of_namespaces o (all_namespaces es)) [] a.1).0,
    )

read_items : (o : MobileSecurityObject) (es : Entries) → ItemsRead o es → items_rule o es ≡ None
unfolding items_rule
read_items o es r =
    none_first (rule 9 (ltb most_items (item_count es))) (rule_of_namespaces o (all_namespaces es) ∷ [])
    (none_rule 9 (ltb most_items (item_count es)) (le-ltb most_items (item_count es) r.0))
    (none_first (rule_of_namespaces o (all_namespaces es)) []
    (ap (rule_of_namespaces o) r.1.1 ∙ fault_none (hash_of o) o.digests r.1.0 r.1.2) refl)

-- ---- rules 5 to 8

key_of : (p : Option Span) → option_map_or (λ key. not (is_key key)) p true ≡ false
    → (key : Span) × (p ≡ Some key) × (is_key key ≡ true)
key_of None e = absurd cc
key_of (Some key) e = (key, refl, is_true (is_key key) e)

of_key : (p : Option Span) (key : Span) → p ≡ Some key → is_key key ≡ true
    → option_map_or (λ k. not (is_key k)) p true ≡ false
of_key p key e f = ap (λ q. option_map_or (λ k. not (is_key k)) q true) e ∙ ap not f

abbrev pub Sound : MobileSecurityObject → Type 0
Sound o = (hash : HashName) × (from : ℕ) × (until : ℕ) × (key : Span) × IsSound o hash from until key

object_sound : (o : MobileSecurityObject) → security_object_rule o ≡ None → Sound o
unfolding security_object_rule
object_sound o e =
    let r5 = rule 5 (not (has_version o.entries)) in
    let r6 = rule 6 (is_none (mso_hash_named o.algorithm)) in
    let r7 = rule 7 (is_none (first_in o) || is_none (last_in o)) in
    let r8 = rule 8 (has_wrong_key o.entries) in
    let a = first_none r5 (r6 ∷ r7 ∷ r8 ∷ []) e in
    let b = first_none r6 (r7 ∷ r8 ∷ []) a.1 in
    let c = first_none r7 (r8 ∷ []) b.1 in
    let d = first_none r8 [] c.1 in
    let hash = not_none (mso_hash_named o.algorithm)
    (rule_none 6 (is_none (mso_hash_named o.algorithm)) b.0) in
    let dates = or_parts (is_none (first_in o)) (is_none (last_in o))
    (rule_none 7 (is_none (first_in o) || is_none (last_in o)) c.0) in
    let from = not_none (first_in o) dates.0 in
    let until = not_none (last_in o) dates.1 in
    let key = key_of (device_key_in o.entries) (rule_none 8 (has_wrong_key o.entries) d.0) in (
      hash.0,
      from.0,
      until.0,
      key.0,
      record {
        of_version = is_true (has_version o.entries) (rule_none 5 (not (has_version o.entries)) a.0);
        names_hash = hash.1;
        is_from = from.1;
        is_until = until.1;
        has_key = key.1;
        of_form = key.2;
      },
    )

sound_object : (o : MobileSecurityObject) (hash : HashName) (from until : ℕ) (key : Span)
    → IsSound o hash from until key
    → security_object_rule o ≡ None
unfolding security_object_rule
sound_object o hash from until key s =
    let r5 = rule 5 (not (has_version o.entries)) in
    let r6 = rule 6 (is_none (mso_hash_named o.algorithm)) in
    let r7 = rule 7 (is_none (first_in o) || is_none (last_in o)) in
    let r8 = rule 8 (has_wrong_key o.entries) in
    none_first r5 (r6 ∷ r7 ∷ r8 ∷ []) (none_rule 5 (not (has_version o.entries)) (ap not s.of_version))
    (none_first r6 (r7 ∷ r8 ∷ [])
    (none_rule 6 (is_none (mso_hash_named o.algorithm)) (ap is_none s.names_hash))
    (none_first r7 (r8 ∷ [])
    (none_rule 7 (is_none (first_in o) || is_none (last_in o))
    (or_from (is_none (first_in o)) (is_none (last_in o)) (ap is_none s.is_from) (ap is_none s.is_until)))
    (none_first r8 []
    (none_rule 8 (has_wrong_key o.entries) (of_key (device_key_in o.entries) key s.has_key s.of_form))
    refl)))

-- ---- rules 4 to 13

pub object_read : (es : Entries) (p : Option MobileSecurityObject) → rule_of_security_object es p ≡ None
    → (o : MobileSecurityObject) × (p ≡ Some o) × Sound o × ItemsRead o es
object_read es None e = absurd cc
object_read es (Some o) e =
    let a = first_none (security_object_rule o) (items_rule o es ∷ []) e in
    (o, refl, object_sound o a.0, items_read o es (first_none (items_rule o es) [] a.1).0)

pub read_object : (es : Entries) (o : MobileSecurityObject) (hash : HashName) (from until : ℕ) (key : Span)
    → IsSound o hash from until key → ItemsRead o es
    → rule_of_security_object es (Some o) ≡ None
read_object es o hash from until key s r =
    none_first (security_object_rule o) (items_rule o es ∷ []) (sound_object o hash from until key s)
    (none_first (items_rule o es) [] (read_items o es r) refl)

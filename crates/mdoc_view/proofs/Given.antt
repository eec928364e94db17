-- What the namespaces say is what they give by the relation.
use Rattle.std.proofs.Common.{◌≡◌, ℕ, Bool, true, false, not, List, [], ◌∷◌, map, Option, Some, None}
use Rattle.std.proofs.Common.{option_map, option_and_then, refl, sym, ap, ap₂, ◌∙◌, subst}
use Rattle.std.specs.Prelude.{codes, is_none}
use Rattle.std.specs.Option.{option_map_or}
use Rattle.std.specs.List.{list_any, list_all}
use Rattle.std.specs.Str.{bytes_eq}
use Rattle.std.proofs.lemmas.Bool.{and_parts, and_from, or_parts, or_from}
use Rattle.std.proofs.lemmas.Slice.Eq.{bytes_eq-Decides}
use Rattle.base_forms.specs.Hash.{digest_by}
use Rattle.base_forms.specs.Texts.{Utf8, differ}
use Rattle.base_forms.specs.declared.hash.HashName.{HashName}
use Rattle.base_forms.proofs.Differing.{same_from}
use Rattle.claim_tree.specs.Tree.{Tree}
use Rattle.cbor_core.specs.Views.{Span, utf8_text_of, items_of, find_in}
use Rattle.mdoc_items.specs.MapFields.{Entries, text_at, natural_at, bytes_at, one_map, embedded}
use Rattle.mdoc_security.specs.ValueDigests.{digest_at}
use Rattle.mdoc_items.specs.IssuerSignedItems.{IssuerSignedItem, Namespace, item_by, item_in, all_items}
use Rattle.mdoc_items.specs.IssuerSignedItems.{namespace_in, all_namespaces}
use Rattle.mdoc_view.specs.ItemRules.{elements_differ, lacks, deviates, any_item}
use Rattle.mdoc_items.specs.Value.{Valued, value_of, record_of, namespace_tree}
use Rattle.mdoc_view.specs.Relation.{IsItem, GiveMembers, GiveNamespaces}
use Rattle.mdoc_view.proofs.Options.{split, split_map}
use Rattle.mdoc_view.proofs.Distinct.{names_in, record_held, held_record}

is_true : (b : Bool) → not b ≡ false → b ≡ true
is_true true e = refl
is_true false e = cc

-- ---- one item

-- an item of this span by what stands under its four names
abbrev item_from : Span → Option ℕ → Option (List ℕ) → Option Utf8 → Option Span → Option IssuerSignedItem
item_from s n r k v =
    option_and_then (λ digest_id.
    option_and_then (λ random.
    option_and_then (λ element_identifier.
    option_map (λ element_value. record {
      span = s;
      digest_id = digest_id;
      element_identifier = element_identifier;
      element_value = element_value;
    }) v) k) r) n

fields_at : (s : Span) (i : IssuerSignedItem) (n : Option ℕ) (r : Option (List ℕ)) (k : Option Utf8)
    (v : Option Span)
    → item_from s n r k v ≡ Some i
    → (random : List ℕ) × (n ≡ Some i.digest_id) × (r ≡ Some random) × (k ≡ Some i.element_identifier)
    × (v ≡ Some i.element_value) × (i.span ≡ s)
fields_at s i (Some n) (Some r) (Some k) (Some v) e =
    let same : record { span = s; digest_id = n; element_identifier = k; element_value = v } ≡ i = cc in (
      r,
      ap (λ (j : IssuerSignedItem). Some j.digest_id) same,
      refl,
      ap (λ (j : IssuerSignedItem). Some j.element_identifier) same,
      ap (λ (j : IssuerSignedItem). Some j.element_value) same,
      ap (λ (j : IssuerSignedItem). j.span) (sym same),
    )
fields_at s i None r k v e = absurd cc
fields_at s i (Some n) None k v e = absurd cc
fields_at s i (Some n) (Some r) None v e = absurd cc
fields_at s i (Some n) (Some r) (Some k) None e = absurd cc

item_said : (s : Span) (i : IssuerSignedItem) → item_in s ≡ Some i
    → IsItem s i.digest_id i.element_identifier i.element_value × (i.span ≡ s)
item_said s i e =
    let a = split (item_by s) (option_and_then one_map (embedded s)) i e in
    let b = split one_map (embedded s) a.0 a.1 in
    let f = fields_at s i (natural_at (codes "digestID") a.0) (bytes_at (codes "random") a.0)
    (text_at (codes "elementIdentifier") a.0) (find_in (codes "elementValue") a.0) a.2 in (
      record {
        bytes = b.0;
        is_embedded = b.1;
        entries = a.0;
        is_map = b.2;
        has_digest_id = f.1;
        random = f.0;
        has_random = f.2;
        has_identifier = f.3;
        has_value = f.4;
      },
      f.5,
    )

from_fields : (s : Span) (d : ℕ) (r : List ℕ) (k : Utf8) (v : Span)
    (n : Option ℕ) (o : Option (List ℕ)) (p : Option Utf8) (q : Option Span)
    → n ≡ Some d → o ≡ Some r → p ≡ Some k → q ≡ Some v
    → item_from s n o p q ≡ Some
    (record { span = s; digest_id = d; element_identifier = k; element_value = v })
from_fields s d r k v n o p q e f g h = rw (e, f, g, h) refl

said_item : (s : Span) (d : ℕ) (k : Utf8) (v : Span) → IsItem s d k v
    → item_in s ≡ Some (record { span = s; digest_id = d; element_identifier = k; element_value = v })
said_item s d k v x =
    ap (option_and_then (item_by s)) (ap (option_and_then one_map) x.is_embedded ∙ x.is_map)
    ∙ from_fields s d x.random k v (natural_at (codes "digestID") x.entries)
    (bytes_at (codes "random") x.entries)
    (text_at (codes "elementIdentifier") x.entries)
    (find_in (codes "elementValue") x.entries) x.has_digest_id x.has_random x.has_identifier x.has_value

-- ---- the items of a namespace

abbrev pub element : IssuerSignedItem → Valued
element i = (i.element_identifier, value_of i.element_value)

own_digest : (o : Option (List ℕ)) (x : List ℕ) → is_none o ≡ false
    → option_map_or (λ d. not (bytes_eq d x)) o false ≡ false → o ≡ Some x
own_digest None x n e = absurd cc
own_digest (Some d) x n e = ap Some (same_from d x (is_true (bytes_eq d x) e))

digest_own : (o : Option (List ℕ)) (x : List ℕ) → o ≡ Some x
    → (is_none o ≡ false) × (option_map_or (λ d. not (bytes_eq d x)) o false ≡ false)
digest_own None x e = absurd cc
digest_own (Some d) x e =
    let same : d ≡ x = cc in (refl, ap not ((bytes_eq-Decides d x).1 same))

module _ (hash : HashName) (digests : Entries) where
  items_given : (name : Utf8) (ss : List Span) (is : List IssuerSignedItem) → all_items ss ≡ Some is
      → list_any (lacks digests name) is ≡ false → list_any (deviates hash digests name) is ≡ false
      → GiveMembers hash digests name ss (map element is)
  items_given name [] is e l v =
      let same : [] ≡ is = cc in
      subst (λ js. GiveMembers hash digests name [] (map element js)) same GiveMembers.no_more
  items_given name (s ∷ ss) is e l v =
      let a = split (λ x. option_map (λ xs. x ∷ xs) (all_items ss)) (item_in s) is e in
      let b = split_map (λ xs. a.0 ∷ xs) (all_items ss) is a.2 in
      let i = a.0 in
      let said = item_said s i a.1 in
      let ls = or_parts (lacks digests name i) (list_any (lacks digests name) b.0)
      (ap (list_any (lacks digests name)) b.2 ∙ l) in
      let vs = or_parts (deviates hash digests name i) (list_any (deviates hash digests name) b.0)
      (ap (list_any (deviates hash digests name)) b.2 ∙ v) in
      let own = own_digest (digest_at name i.digest_id digests) (digest_by hash i.span) ls.0 vs.0 in
      subst (λ js. GiveMembers hash digests name (s ∷ ss) (map element js)) b.2
      (GiveMembers.item said.0 (own ∙ ap (λ z. Some (digest_by hash z)) said.1)
      (items_given name ss b.0 b.1 ls.1 vs.1))

  abbrev ItemsOf : Utf8 → List Span → List Valued → Type 0
  ItemsOf name ss ms =
      (is : List IssuerSignedItem) × (all_items ss ≡ Some is) × (map element is ≡ ms)
      × (list_any (lacks digests name) is ≡ false) × (list_any (deviates hash digests name) is ≡ false)

  given_items : (name : Utf8) {ss : List Span} {ms : List Valued} → GiveMembers hash digests name ss ms
      → ItemsOf name ss ms
  given_items name GiveMembers.no_more = ([], refl, refl, refl, refl)
  given_items name
      (GiveMembers.item {span = s} {digest_id = d} {element_identifier = k} {element_value = v} {spans = ss} x
      own g) =
      let r = given_items name g in
      let i : IssuerSignedItem =
      record { span = s; digest_id = d; element_identifier = k; element_value = v } in
      let fine = digest_own (digest_at name d digests) (digest_by hash s) own in (
        i ∷ r.0,
        ap (option_and_then (λ y. option_map (λ ys. y ∷ ys) (all_items ss))) (said_item s d k v x)
            ∙ ap (option_map (λ ys. i ∷ ys)) r.1,
        ap (λ ys. (k, value_of v) ∷ ys) r.2,
        or_from (lacks digests name i) (list_any (lacks digests name) r.0) fine.0 r.3,
        or_from (deviates hash digests name i) (list_any (deviates hash digests name) r.0) fine.1 r.4,
      )

-- ---- the namespaces

names_element : (is : List IssuerSignedItem) → names_in (map element is) ≡ map (λ i. i.element_identifier) is
names_element [] = refl
names_element (i ∷ is) = ap (λ ks. i.element_identifier ∷ ks) (names_element is)

abbrev pub member : Namespace → Valued
member n = (n.name, namespace_tree n)

pub names_member : (ns : List Namespace) → names_in (map member ns) ≡ map (λ n. n.name) ns
names_member [] = refl
names_member (n ∷ ns) = ap (λ ks. n.name ∷ ks) (names_member ns)

-- no rule of 11 to 13 is broken
pub record NoFault (hash : HashName) (digests : Entries) (ns : List Namespace) : Type 0 where
  pub elements : list_all elements_differ ns ≡ true
  pub none_lacks : list_any (any_item (lacks digests)) ns ≡ false
  pub none_deviates : list_any (any_item (deviates hash digests)) ns ≡ false

module _ (hash : HashName) (digests : Entries) where
  pub namespaces_given : (es : Entries) (ns : List Namespace) → all_namespaces es ≡ Some ns
      → NoFault hash digests ns
      → GiveNamespaces hash digests es (map member ns)
  namespaces_given [] ns e f =
      let same : [] ≡ ns = cc in
      subst (λ ms. GiveNamespaces hash digests [] (map member ms)) same GiveNamespaces.no_more
  namespaces_given (x ∷ es) ns e f =
      let a = split (λ y. option_map (λ ys. y ∷ ys) (all_namespaces es)) (namespace_in x) ns e in
      let b = split_map (λ ys. a.0 ∷ ys) (all_namespaces es) ns a.2 in
      let c = split (λ name. option_map (λ items. record { name = name; items = items })
      (all_items (items_of x.1))) (utf8_text_of x.0) a.0 a.1 in
      let d = split_map (λ items. record { name = c.0; items = items }) (all_items (items_of x.1)) a.0 c.2 in
      let n : Namespace = record { name = c.0; items = d.0 } in
      let whole : n ∷ b.0 ≡ ns = ap (λ m. m ∷ b.0) d.2 ∙ b.2 in
      let ds = and_parts (elements_differ n) (list_all elements_differ b.0)
      (ap (list_all elements_differ) whole ∙ f.elements) in
      let ls = or_parts (any_item (lacks digests) n) (list_any (any_item (lacks digests)) b.0)
      (ap (list_any (any_item (lacks digests))) whole ∙ f.none_lacks) in
      let vs = or_parts (any_item (deviates hash digests) n) (list_any (any_item (deviates hash digests)) b.0)
      (ap (list_any (any_item (deviates hash digests))) whole ∙ f.none_deviates) in
      let rest : NoFault hash digests b.0 =
      record { elements = ds.1; none_lacks = ls.1; none_deviates = vs.1 } in
      subst (λ ms. GiveNamespaces hash digests (x ∷ es) (map member ms)) whole
      (GiveNamespaces.namespace c.1 (items_given hash digests c.0 (items_of x.1) d.0 d.1 ls.0 vs.0)
      (record_held (map element d.0) (ap differ (names_element d.0) ∙ ds.0))
      (namespaces_given es b.0 b.1 rest))

  abbrev pub NamespacesOf : Entries → List Valued → Type 0
  NamespacesOf es ms =
      (ns : List Namespace) × (all_namespaces es ≡ Some ns) × (map member ns ≡ ms) × NoFault hash digests ns

  pub given_namespaces : {es : Entries} {ms : List Valued} → GiveNamespaces hash digests es ms
      → NamespacesOf es ms
  given_namespaces GiveNamespaces.no_more =
      ([], refl, refl, record { elements = refl; none_lacks = refl; none_deviates = refl })
  given_namespaces
      (GiveNamespaces.namespace {key = key} {list = list} {name = name} {elements = elements} {tree = tree}
      {entries = es} {members = ms} u g r gs) =
      let i = given_items hash digests name g in
      let h = held_record elements tree r in
      let rest = given_namespaces gs in
      let n : Namespace = record { name = name; items = i.0 } in
      let said : namespace_in (key, list) ≡ Some n =
      ap (option_and_then
      (λ k. option_map (λ items. record { name = k; items = items }) (all_items (items_of list)))) u
      ∙ ap (option_map (λ items. record { name = name; items = items })) i.1 in
      let differs : elements_differ n ≡ true = ap differ (sym (names_element i.0))
      ∙ ap (λ ys. differ (names_in ys)) i.2 ∙ h.1 in
      let same : namespace_tree n ≡ tree = ap (record_of true) i.2 ∙ h.0 in (
        n ∷ rest.0,
        ap (option_and_then (λ y. option_map (λ ys. y ∷ ys) (all_namespaces es))) said
            ∙ ap (option_map (λ ys. n ∷ ys)) rest.1,
        ap₂ (λ (t : Tree) (ys : List Valued). (name, t) ∷ ys) same rest.2,
        record {
          elements = and_from (elements_differ n) (list_all elements_differ rest.0) differs (rest.3).elements;
          none_lacks = or_from (any_item (lacks digests) n) (list_any (any_item (lacks digests)) rest.0) i.3
              (rest.3).none_lacks;
          none_deviates =
              or_from (any_item (deviates hash digests) n)
              (list_any (any_item (deviates hash digests)) rest.0) i.4 (rest.3).none_deviates;
        },
      )

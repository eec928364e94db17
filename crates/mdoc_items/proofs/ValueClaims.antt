-- The tree of a document is a claim: names ascend, and no list has a held element.
use Rattle.std.proofs.Common.{◌≡◌, ℕ, zero, suc, Bool, true, false, not, ◌&&◌, ◌||◌, List, [], ◌∷◌, map}
use Rattle.std.proofs.Common.{Option, Some, None, option_map, option_and_then, IfSome, Ordering, Less, Equal}
use Rattle.std.proofs.Common.{Greater, inl, inr, refl, ap, ap₂}
use Rattle.std.specs.Option.{option_map_or}
use Rattle.std.specs.List.{list_all, list_any, AllByRecursion}
use Rattle.std.specs.Ordering.{is_lt, match_ordering}
use Rattle.std.proofs.lemmas.Bool.{and_parts, and_from, cases_Bool}
use Rattle.claim_tree.specs.Tree.{Name, Tree, Text, Whole, Truth, Bytes, Other, element_marks, member_names}
use Rattle.claim_tree.specs.Tree.{ascend, is_claim, are_claims, hold_claims}
use Rattle.claim_tree.specs.Parts.{elements_of, members_of}
use Rattle.claim_tree.specs.Ascending.{below}
use Rattle.cbor_core.specs.declared.kind.Kind.{Kind}
use Rattle.cbor_core.specs.declared.kind.Kind.TheVariants as kind
use Rattle.cbor_core.specs.Views.{Span, kind_of, whole_of, bytes_of, utf8_text_of, truth_of, tag_of, items_of}
use Rattle.cbor_core.specs.Views.{entries_of}
use Rattle.mdoc_items.specs.MapFields.{Utf8, Entries}
use Rattle.mdoc_items.specs.IssuerSignedItems.{IssuerSignedItem, Namespace}
use Rattle.mdoc_items.specs.Value.{Valued, placed, in_order, rise, marked, record_of, named_values}
use Rattle.mdoc_items.specs.Value.{plain_parts, list_tree, tree_by, value_at, value_of, namespace_tree}
use Rattle.mdoc_items.specs.Value.{document_tree}
use Rattle.mdoc_items.proofs.InOrder.{by_name, Strict, strict_from_rise}

-- ---- records

module _ (held : Bool) where
  abbrev named : List Valued → List Name
  named ms = member_names (members_of (marked held ms))

  abbrev hold : List Valued → Bool
  hold ms = hold_claims (members_of (marked held ms))

  all_below : (m : Valued) (ms : List Valued) → AllByRecursion (λ l. by_name m l ≡ Less) ms
      → list_all (below m.0) (named ms) ≡ true
  all_below m [] h = refl
  all_below m (l ∷ ms) h =
      and_from (below m.0 l.0) (list_all (below m.0) (named ms)) (ap is_lt h.0) (all_below m ms h.1)

  ascend-strict : (ms : List Valued) → Strict ms → ascend (named ms) ≡ true
  ascend-strict [] h = refl
  ascend-strict (m ∷ ms) h =
      and_from (list_all (below m.0) (named ms)) (ascend (named ms)) (all_below m ms h.0)
      (ascend-strict ms h.1)

  hold-placed_at : (o : Ordering) (m l : Valued) (ls : List Valued) → is_claim m.1 ≡ true
      → is_claim l.1 ≡ true → hold ls ≡ true → hold (placed m ls) ≡ true
      → hold (match_ordering o (m ∷ l ∷ ls) (m ∷ l ∷ ls) (l ∷ placed m ls)) ≡ true
  hold-placed_at Less m l ls p q rest later =
      and_from (is_claim m.1) (is_claim l.1 && hold ls) p (and_from (is_claim l.1) (hold ls) q rest)
  hold-placed_at Equal m l ls p q rest later =
      and_from (is_claim m.1) (is_claim l.1 && hold ls) p (and_from (is_claim l.1) (hold ls) q rest)
  hold-placed_at Greater m l ls p q rest later = and_from (is_claim l.1) (hold (placed m ls)) q later

  hold-placed : (m : Valued) (ls : List Valued) → is_claim m.1 ≡ true → hold ls ≡ true
      → hold (placed m ls) ≡ true
  hold-placed m [] p h = and_from (is_claim m.1) true p refl
  hold-placed m (l ∷ ls) p h =
      let both = and_parts (is_claim l.1) (hold ls) h in
      hold-placed_at (by_name m l) m l ls p both.0 both.1 (hold-placed m ls p both.1)

  hold-in_order : (ms : List Valued) → hold ms ≡ true → hold (in_order ms) ≡ true
  hold-in_order [] h = refl
  hold-in_order (m ∷ ms) h =
      let both = and_parts (is_claim m.1) (hold ms) h in
      hold-placed m (in_order ms) both.0 (hold-in_order ms both.1)

  record_claim : (ms : List Valued) → hold ms ≡ true → is_claim (record_of held ms) ≡ true
  record_claim ms h =
      elim (cases_Bool (rise (in_order ms))) [
        | inl up ↦ rw up
            (and_from (ascend (named (in_order ms))) (hold (in_order ms))
            (ascend-strict (in_order ms) (strict_from_rise (in_order ms) up)) (hold-in_order ms h))
        | inr down ↦ rw down refl
      ]

-- ---- the tree of an item

module _ (inner : Span → Tree) (claims : (i : Span) → is_claim (inner i) ≡ true) where
  abbrev AllHold : Option (List Valued) → Type 0
  AllHold o = IfSome o (λ ms. hold false ms ≡ true)

  one_more : (e : Span × Span) (name : Utf8) (o : Option (List Valued)) → AllHold o
      → AllHold (option_map (λ ms. (name, inner e.1) ∷ ms) o)
  one_more e name None h = tt
  one_more e name (Some ms) h = and_from (is_claim (inner e.1)) (hold false ms) (claims e.1) h

  named_at : (e : Span × Span) (rest : Option (List Valued)) → AllHold rest → (o : Option Utf8)
      → AllHold (option_and_then (λ name. option_map (λ ms. (name, inner e.1) ∷ ms) rest) o)
  named_at e rest h None = tt
  named_at e rest h (Some name) = one_more e name rest h

  values_hold : (es : Entries) → AllHold (named_values inner es)
  values_hold [] = refl
  values_hold (e ∷ es) = named_at e (named_values inner es) (values_hold es) (utf8_text_of e.0)

  record_in : (o : Option (List Valued)) → AllHold o
      → is_claim (option_map_or (record_of false) o Other) ≡ true
  record_in None h = refl
  record_in (Some ms) h = record_claim false ms h

  none_held : (is : List Span)
      → list_any (λ h. h) (element_marks (elements_of (plain_parts inner is))) ≡ false
  none_held [] = refl
  none_held (i ∷ is) = none_held is

  all_claims : (is : List Span) → are_claims (elements_of (plain_parts inner is)) ≡ true
  all_claims [] = refl
  all_claims (i ∷ is) =
      and_from (is_claim (inner i)) (are_claims (elements_of (plain_parts inner is))) (claims i)
      (all_claims is)

  list_claim : (item : Span) → is_claim (list_tree inner item) ≡ true
  list_claim item =
      ap₂ (λ a b. (not a || false) && b) (none_held (items_of item)) (all_claims (items_of item))

  content_at : (o : Option (ℕ × Span)) → is_claim (option_map_or (λ t. inner t.1) o Other) ≡ true
  content_at None = refl
  content_at (Some t) = claims t.1

  simple : {X : Type 0} (f : X → Tree) → ((x : X) → is_claim (f x) ≡ true) → (o : Option X)
      → is_claim (option_map_or f o Other) ≡ true
  simple f h None = refl
  simple f h (Some x) = h x

  claim_by : (k : Kind) (item : Span) → is_claim (tree_by inner k item) ≡ true
  claim_by kind.Whole item = simple Whole (λ z. refl) (whole_of item)
  claim_by kind.Bytes item = simple Bytes (λ b. refl) (bytes_of item)
  claim_by kind.Text item = simple Text (λ s. refl) (utf8_text_of item)
  claim_by kind.List item = list_claim item
  claim_by kind.Map item = record_in (named_values inner (entries_of item)) (values_hold (entries_of item))
  claim_by kind.Tag item = content_at (tag_of item)
  claim_by kind.Truth item = simple Truth (λ b. refl) (truth_of item)
  claim_by kind.Null item = refl
  claim_by kind.Other item = refl

value_claim : (n : ℕ) (item : Span) → is_claim (value_at n item) ≡ true
unfolding value_at
value_claim zero item = refl
value_claim (suc n) item = claim_by (value_at n) (value_claim n) (kind_of item) item

-- ---- the tree of a document

elements_hold : (is : List IssuerSignedItem)
    → hold true (map (λ i. (i.element_identifier, value_of i.element_value)) is) ≡ true
elements_hold [] = refl
elements_hold (i ∷ is) =
    and_from (is_claim (value_of i.element_value))
    (hold true (map (λ j. (j.element_identifier, value_of j.element_value)) is))
    (value_claim 32 i.element_value) (elements_hold is)

namespaces_hold : (ns : List Namespace) → hold true (map (λ n. (n.name, namespace_tree n)) ns) ≡ true
namespaces_hold [] = refl
namespaces_hold (n ∷ ns) =
    and_from (is_claim (namespace_tree n)) (hold true (map (λ m. (m.name, namespace_tree m)) ns))
    (record_claim true (map (λ i. (i.element_identifier, value_of i.element_value)) n.items)
    (elements_hold n.items)) (namespaces_hold ns)

pub document_claim : (ns : List Namespace) → is_claim (document_tree ns) ≡ true
unfolding document_tree
document_claim ns = record_claim true (map (λ n. (n.name, namespace_tree n)) ns) (namespaces_hold ns)

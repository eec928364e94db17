-- Valid items (RFC 8949, section 5.3.1): exactly those that break no rule, and what stands in one is valid,
-- one
-- level less deep.
use Rattle.std.proofs.Common.{◌≡◌, ℕ, zero, suc, ◌-◌, ◌≤◌, Bool, true, false, cond, not, ltb, List, [], ◌∷◌}
use Rattle.std.proofs.Common.{◌++◌, length, Option, Some, None, Ok, refl, sym, ap, ap₂, subst, ◌∙◌}
use Rattle.std.proofs.Common.{append_assoc, arith, inl, inr}
use Rattle.std.specs.List.{concat, AllByRecursion, list_all}
use Rattle.std.proofs.lemmas.Bool.{cases_Bool, and_parts, and_from, lt-ltb}
use Rattle.std.proofs.lemmas.List.{take_at, length-append, append-nil}
use Rattle.cbor_validity.specs.declared.head.TheConstants.{MAX_DEPTH}
use Rattle.cbor_validity.specs.declared.head.Head.{Head}
use Rattle.cbor_validity.specs.declared.head.Head.TheVariants as head
use Rattle.cbor_validity.specs.Head.{head_at}
use Rattle.cbor_validity.specs.Item.{is_nest, item_at}
use Rattle.cbor_validity.specs.Grammar.{IsPair, IsContent, IsItem}
use Rattle.cbor_validity.specs.Keys.{keys_differ, keys_in}
use Rattle.cbor_validity.specs.Fine.{fine_at}
use Rattle.cbor_core.specs.Views.{before, before_break, items_in, pair_up, inside_by, inside_of, list_by}
use Rattle.cbor_core.specs.Views.{elements_of, items_of, map_by, pairs_of, entries_of, tag_by, tag_of}
use Rattle.cbor_core.specs.Rules.{each_inside, is_fine_text, is_fine_map, is_fine_item, rule_of, later_rule}
use Rattle.cbor_core.specs.Rules.{rule_after, broken_rule}
use Rattle.cbor_validity.proofs.Fronts.{head_front}
use Rattle.cbor_validity.proofs.Reading.{item_reads}
use Rattle.cbor_validity.proofs.Cutting.{either, cut_nil, cut_parts}
use Rattle.cbor_validity.proofs.Deeper.{deeper, all_weaker}
use Rattle.cbor_validity.proofs.Inside.{before_nothing, fine_texts, fine_maps, wrong_maps}

-- one item with at most depth lists, maps and tags inside one another, each text in it UTF-8, no key of a map
-- in it twice
pub record IsFine (depth : ℕ) (bytes : List ℕ) : Type 0 where
  pub item : IsItem depth bytes
  pub inside : each_inside is_fine_item depth bytes ≡ true

-- ---- no rule is broken exactly there

each_of : (depth : ℕ) (bytes : List ℕ) → each_inside is_fine_text depth bytes ≡ true
    → each_inside is_fine_map depth bytes ≡ true → each_inside is_fine_item depth bytes ≡ true
each_of depth bytes t m = elim (cases_Bool (each_inside is_fine_item depth bytes)) [
  | inl is ↦ is
  | inr wrong ↦ absurd
      (let no_map = wrong_maps depth bytes wrong t in let e : true ≡ false = sym m ∙ no_map in cc)
]

alone_read : (depth : ℕ) (bytes : List ℕ) → IsItem depth bytes → item_at depth bytes ≡ Ok []
alone_read depth bytes i = ap (item_at depth) (sym (append-nil bytes)) ∙ (item_reads depth).again bytes [] i

pub unbroken : (depth : ℕ) (bytes : List ℕ) → IsFine depth bytes → broken_rule depth bytes ≡ None
unfolding broken_rule
unbroken depth bytes f =
    let t = fine_texts depth bytes f.inside in
    let m = fine_maps depth bytes f.inside in
    ap (rule_after depth bytes) (alone_read depth bytes f.item)
    ∙ ap (λ b. later_rule depth b []) (before_nothing [] bytes refl)
    ∙ rw (t, m) refl

later_none : (depth : ℕ) (item rest : List ℕ) → later_rule depth item rest ≡ None
    → (each_inside is_fine_text depth item ≡ true) × (each_inside is_fine_map depth item ≡ true) × (rest ≡ [])
later_none depth item rest e =
    go (each_inside is_fine_text depth item) (each_inside is_fine_map depth item) rest e
  where
    go : (t m : Bool) (rest : List ℕ)
        → cond {A = Option ℕ} (not t) (Some 4)
        (cond (not m) (Some 5) (cond (ltb 0 (length rest)) (Some 7) None)) ≡ None → (t ≡ true) × (m ≡ true)
        × (rest ≡ [])
    go true true [] e = (refl, refl, refl)
    go true true (b ∷ bs) e =
        let some : ltb 0 (length (b ∷ bs)) ≡ true = lt-ltb 0 (length (b ∷ bs)) (omega arith) in
        absurd (let seven : Some 7 ≡ None = sym (ap (λ (c : Bool). cond {A = Option ℕ} c (Some 7) None) some)
        ∙ e in cc)
    go true false rest e = absurd cc
    go false m rest e = absurd cc

pub fine_from : (depth : ℕ) (bytes : List ℕ) → broken_rule depth bytes ≡ None → IsFine depth bytes
unfolding broken_rule
fine_from depth bytes e = elim (either (item_at depth bytes)) [
  | inl r ↦
      let later : later_rule depth (before r.0 bytes) r.0 ≡ None = sym (ap (rule_after depth bytes) r.1)
      ∙ e in
      let l = later_none depth (before r.0 bytes) r.0 later in
      let t = (item_reads depth).takes bytes r.0 r.1 in
      let whole : bytes ≡ t.part = t.whole ∙ ap (λ (x : List ℕ). t.part ++ x) l.2 ∙ append-nil t.part in
      let same : before r.0 bytes ≡ bytes = ap (λ (x : List ℕ). before x bytes) l.2
      ∙ before_nothing [] bytes refl in
      record {
        item = subst (IsItem depth) (sym whole) t.is_part;
        inside = each_of depth bytes (ap (each_inside is_fine_text depth) (sym same) ∙ l.0)
            (ap (each_inside is_fine_map depth) (sym same) ∙ l.1);
      }
  | inr r ↦ absurd (let no : Some (rule_of r.0) ≡ None = sym (ap (rule_after depth bytes) r.1) ∙ e in cc)
]

-- ---- the parts of an item

pub head_is : (h : Head) (front back : List ℕ) → head_at front ≡ Ok (h, [])
    → head_at (front ++ back) ≡ Ok (h, back)
head_is h front back e =
    let f = head_front front h [] e in
    let grouped : front ++ back ≡ f.first ∷ (f.others ++ back) =
    ap (λ (x : List ℕ). x ++ back) (f.parts ∙ ap (λ (x : List ℕ). f.first ∷ x) (append-nil f.others)) in
    ap head_at grouped ∙ f.again back

without_last : (front : List ℕ) → before_break (front ++ (255 ∷ [])) ≡ front
without_last front =
    take_at front (255 ∷ []) (length (front ++ (255 ∷ [])) - 1)
    (omega (arith, length-append front (255 ∷ [])))

pub no_items : items_in [] ≡ []
unfolding items_in
no_items = cut_nil (item_at MAX_DEPTH) 0

module _ (depth : ℕ) (le : depth ≤ MAX_DEPTH) where
  pub items_are : (parts : List (List ℕ)) → AllByRecursion (IsItem depth) parts
      → items_in (concat parts) ≡ parts
  unfolding items_in
  items_are parts all =
      cut_parts (item_at MAX_DEPTH) (IsItem MAX_DEPTH) (item_reads MAX_DEPTH) parts
      (all_weaker (IsItem depth) (IsItem MAX_DEPTH) (λ b i. deeper depth MAX_DEPTH b le i) parts all)

  -- keys and values in turn
  turned : (pairs : List (List ℕ)) → AllByRecursion (IsPair (IsItem depth)) pairs → (parts : List (List ℕ))
      × AllByRecursion (IsItem depth) parts × (concat pairs ≡ concat parts)
  turned [] all = ([], tt, refl)
  turned (p ∷ ps) all =
      let r = turned ps all.1 in
      let a = all.0 in (
        a.0 ∷ a.1 ∷ r.0,
        (a.2, (a.3, r.1)),
        ap₂ (λ (x y : List ℕ). x ++ y) a.4 r.2
            ∙ append_assoc a.0 a.1 (concat r.0),
      )

  are_items : (parts : List (List ℕ)) (bytes : List ℕ) → AllByRecursion (IsItem depth) parts
      → bytes ≡ concat parts → AllByRecursion (IsItem depth) (items_in bytes)
  are_items parts bytes all e =
      subst (AllByRecursion (IsItem depth)) (sym (ap items_in e ∙ items_are parts all)) all

  inside_items : (h : Head) (back : List ℕ) → IsContent (IsItem depth) h back
      → AllByRecursion (IsItem depth) (items_in (inside_by h back))
  inside_items (head.Unsigned n) back c = subst (AllByRecursion (IsItem depth)) (sym no_items) tt
  inside_items (head.Negative n) back c = subst (AllByRecursion (IsItem depth)) (sym no_items) tt
  inside_items (head.Bytes n) back c = subst (AllByRecursion (IsItem depth)) (sym no_items) tt
  inside_items (head.Text n) back c = subst (AllByRecursion (IsItem depth)) (sym no_items) tt
  inside_items (head.List (Some n)) back c = are_items c.0 back c.1 c.3
  inside_items (head.List None) back c =
      are_items c.0 (before_break back) c.1 (ap before_break c.2 ∙ without_last (concat c.0))
  inside_items (head.Map (Some n)) back c = let t = turned c.0 c.1 in are_items t.0 back t.1 (c.3 ∙ t.2)
  inside_items (head.Map None) back c = let t =
      turned c.0 c.1 in are_items t.0 (before_break back) t.1
      (ap before_break c.2 ∙ without_last (concat c.0) ∙ t.2)
  inside_items (head.Tag n) back c = are_items (back ∷ []) back (c, tt) (sym (append-nil back))
  inside_items (head.Simple n) back c = subst (AllByRecursion (IsItem depth)) (sym no_items) tt
  inside_items head.Float back c = subst (AllByRecursion (IsItem depth)) (sym no_items) tt
  inside_items head.Break back c = absurd c

  head_of_item : (bytes : List ℕ) (i : IsItem (suc depth) bytes) → head_at bytes ≡ Ok (i.0, i.2)
  head_of_item bytes i = ap head_at i.6 ∙ head_is i.0 i.1 i.2 i.4

  item_parts : (bytes : List ℕ) → IsItem (suc depth) bytes
      → AllByRecursion (IsItem depth) (items_in (inside_of bytes))
  unfolding inside_of
  item_parts bytes i = rw (head_of_item bytes i) (inside_items i.0 i.2 i.5)

  both : (xs : List (List ℕ)) → AllByRecursion (IsItem depth) xs
      → list_all (each_inside is_fine_item depth) xs ≡ true → AllByRecursion (IsFine depth) xs
  both [] all t = tt
  both (x ∷ xs) all t =
      let b = and_parts (each_inside is_fine_item depth x) (list_all (each_inside is_fine_item depth) xs) t in
      (record { item = all.0; inside = b.0 }, both xs all.1 b.1)

  -- what stands directly inside
  pub fine_parts : (bytes : List ℕ) → IsFine (suc depth) bytes
      → AllByRecursion (IsFine depth) (items_in (inside_of bytes))
  unfolding each_inside
  fine_parts bytes f =
      let b = and_parts (is_fine_item bytes)
      (list_all (each_inside is_fine_item depth) (items_in (inside_of bytes))) f.inside in
      both (items_in (inside_of bytes)) (item_parts bytes f.item) b.1

-- ---- parts by what they are

-- the parts of a list and of a map, which are none where an item is neither
module _ (depth : ℕ) (le : depth ≤ MAX_DEPTH) where
  listed : (h : Head) (back : List ℕ) → AllByRecursion (IsFine depth) (items_in (inside_by h back))
      → AllByRecursion (IsFine depth) (items_in (list_by h back))
  listed (head.List (Some n)) back all = all
  listed (head.List None) back all = all
  listed (head.Unsigned n) back all = subst (AllByRecursion (IsFine depth)) (sym no_items) tt
  listed (head.Negative n) back all = subst (AllByRecursion (IsFine depth)) (sym no_items) tt
  listed (head.Bytes n) back all = subst (AllByRecursion (IsFine depth)) (sym no_items) tt
  listed (head.Text n) back all = subst (AllByRecursion (IsFine depth)) (sym no_items) tt
  listed (head.Map n) back all = subst (AllByRecursion (IsFine depth)) (sym no_items) tt
  listed (head.Tag n) back all = subst (AllByRecursion (IsFine depth)) (sym no_items) tt
  listed (head.Simple n) back all = subst (AllByRecursion (IsFine depth)) (sym no_items) tt
  listed head.Float back all = subst (AllByRecursion (IsFine depth)) (sym no_items) tt
  listed head.Break back all = subst (AllByRecursion (IsFine depth)) (sym no_items) tt

  paired : (h : Head) (back : List ℕ) → AllByRecursion (IsFine depth) (items_in (inside_by h back))
      → AllByRecursion (IsFine depth) (items_in (map_by h back))
  paired (head.Map (Some n)) back all = all
  paired (head.Map None) back all = all
  paired (head.Unsigned n) back all = subst (AllByRecursion (IsFine depth)) (sym no_items) tt
  paired (head.Negative n) back all = subst (AllByRecursion (IsFine depth)) (sym no_items) tt
  paired (head.Bytes n) back all = subst (AllByRecursion (IsFine depth)) (sym no_items) tt
  paired (head.Text n) back all = subst (AllByRecursion (IsFine depth)) (sym no_items) tt
  paired (head.List n) back all = subst (AllByRecursion (IsFine depth)) (sym no_items) tt
  paired (head.Tag n) back all = subst (AllByRecursion (IsFine depth)) (sym no_items) tt
  paired (head.Simple n) back all = subst (AllByRecursion (IsFine depth)) (sym no_items) tt
  paired head.Float back all = subst (AllByRecursion (IsFine depth)) (sym no_items) tt
  paired head.Break back all = subst (AllByRecursion (IsFine depth)) (sym no_items) tt

  -- what stands inside, by the head
  by_its_head : (bytes : List ℕ) (f : IsFine (suc depth) bytes)
      → AllByRecursion (IsFine depth) (items_in (inside_by f.item.0 f.item.2))
  unfolding inside_of
  by_its_head bytes f =
      let h = head_of_item depth le bytes f.item in
      let is : inside_of bytes ≡ inside_by f.item.0 f.item.2 = rw h refl in
      subst (λ (x : List ℕ). AllByRecursion (IsFine depth) (items_in x)) is (fine_parts depth le bytes f)

  pub fine_items : (bytes : List ℕ) → IsFine (suc depth) bytes
      → AllByRecursion (IsFine depth) (items_of bytes)
  unfolding elements_of
  fine_items bytes f =
      rw (head_of_item depth le bytes f.item) (listed f.item.0 f.item.2 (by_its_head bytes f))

  two_each : (xs : List (List ℕ)) → AllByRecursion (IsFine depth) xs
      → AllByRecursion (λ p. IsFine depth p.0 × IsFine depth p.1) (pair_up xs)
  two_each [] all = tt
  two_each (k ∷ []) all = tt
  two_each (k ∷ v ∷ xs) all = ((all.0, all.1.0), two_each xs all.1.1)

  pub fine_entries : (bytes : List ℕ) → IsFine (suc depth) bytes
      → AllByRecursion (λ p. IsFine depth p.0 × IsFine depth p.1) (entries_of bytes)
  unfolding pairs_of
  fine_entries bytes f =
      rw (head_of_item depth le bytes f.item)
      (two_each (items_in (map_by f.item.0 f.item.2)) (paired f.item.0 f.item.2 (by_its_head bytes f)))

  abbrev content_or : List ℕ → Option (ℕ × List ℕ) → List ℕ
  content_or d None = d
  content_or d (Some t) = t.1

  one_tagged : (h : Head) (back : List ℕ) (n : ℕ) (inner : List ℕ) → IsContent (IsItem depth) h back
      → AllByRecursion (IsFine depth) (items_in (inside_by h back)) → tag_by h back ≡ Some (n, inner)
      → IsFine depth inner
  one_tagged (head.Tag m) back n inner c all e =
      let one : items_in back ≡ back ∷ [] = ap items_in (sym (append-nil back))
      ∙ items_are depth le (back ∷ []) (c, tt) in
      let is : back ≡ inner = ap (content_or back) e in
      subst (IsFine depth) is (subst (AllByRecursion (IsFine depth)) one all).0
  one_tagged (head.Unsigned m) back n inner c all e = absurd cc
  one_tagged (head.Negative m) back n inner c all e = absurd cc
  one_tagged (head.Bytes m) back n inner c all e = absurd cc
  one_tagged (head.Text m) back n inner c all e = absurd cc
  one_tagged (head.List m) back n inner c all e = absurd cc
  one_tagged (head.Map m) back n inner c all e = absurd cc
  one_tagged (head.Simple m) back n inner c all e = absurd cc
  one_tagged head.Float back n inner c all e = absurd cc
  one_tagged head.Break back n inner c all e = absurd cc

  pub fine_tagged : (bytes : List ℕ) (n : ℕ) (inner : List ℕ) → IsFine (suc depth) bytes
      → tag_of bytes ≡ Some (n, inner) → IsFine depth inner
  unfolding tag_of
  fine_tagged bytes n inner f e =
      one_tagged f.item.0 f.item.2 n inner f.item.5 (by_its_head bytes f)
      (rw (head_of_item depth le bytes f.item) at e)

-- ---- what may be deeper

flat_inside : (h : Head) (back : List ℕ) → is_nest h ≡ false → inside_by h back ≡ []
flat_inside (head.Unsigned n) back e = refl
flat_inside (head.Negative n) back e = refl
flat_inside (head.Bytes n) back e = refl
flat_inside (head.Text n) back e = refl
flat_inside (head.List n) back e = absurd cc
flat_inside (head.Map n) back e = absurd cc
flat_inside (head.Tag n) back e = absurd cc
flat_inside (head.Simple n) back e = refl
flat_inside head.Float back e = refl
flat_inside head.Break back e = refl

flat_parts : (bytes : List ℕ) → IsItem 0 bytes → items_in (inside_of bytes) ≡ []
unfolding inside_of
flat_parts bytes i =
    let h : head_at bytes ≡ Ok (i.0, i.2) = ap head_at i.6 ∙ head_is i.0 i.1 i.2 i.4 in
    rw h (ap items_in (flat_inside i.0 i.2 i.3) ∙ no_items)

pub all_inside : (depth : ℕ) (xs : List (List ℕ)) → AllByRecursion (IsFine depth) xs
    → list_all (each_inside is_fine_item depth) xs ≡ true
all_inside depth [] all = refl
all_inside depth (x ∷ xs) all =
    and_from (each_inside is_fine_item depth x) (list_all (each_inside is_fine_item depth) xs) (all.0).inside
    (all_inside depth xs all.1)

pub one_deeper : (depth : ℕ) → depth ≤ MAX_DEPTH → (bytes : List ℕ) → IsFine depth bytes
    → IsFine (suc depth) bytes
unfolding each_inside
one_deeper zero le bytes f = record {
  item = deeper 0 1 bytes (omega arith) f.item;
  inside = and_from (is_fine_item bytes)
      (list_all (each_inside is_fine_item 0) (items_in (inside_of bytes))) f.inside
      (ap (list_all (each_inside is_fine_item 0)) (flat_parts bytes f.item));
}
one_deeper (suc depth) le bytes f = record {
  item = deeper (suc depth) (suc (suc depth)) bytes (omega arith) f.item;
  inside =
      let b = and_parts (is_fine_item bytes)
      (list_all (each_inside is_fine_item depth) (items_in (inside_of bytes))) f.inside in
      let parts = fine_parts depth (omega arith) bytes f in
      and_from (is_fine_item bytes)
      (list_all (each_inside is_fine_item (suc depth)) (items_in (inside_of bytes))) b.0
      (all_inside (suc depth) (items_in (inside_of bytes))
      (all_weaker (IsFine depth) (IsFine (suc depth)) (one_deeper depth (omega arith))
      (items_in (inside_of bytes)) parts));
}

-- what a map says of its keys
pub fine_keys : (depth : ℕ) (bytes : List ℕ) → IsFine depth bytes
    → keys_differ (keys_in (entries_of bytes)) ≡ true
unfolding each_inside
fine_keys zero bytes f = (and_parts (is_fine_text bytes) (is_fine_map bytes) f.inside).1
fine_keys (suc depth) bytes f =
    (and_parts (is_fine_text bytes) (is_fine_map bytes)
    (and_parts (is_fine_item bytes)
    (list_all (each_inside is_fine_item depth) (items_in (inside_of bytes))) f.inside).0).1

-- the walk of the reader takes all of it
pub taken_whole : (depth : ℕ) (bytes : List ℕ) → IsFine depth bytes → fine_at depth bytes ≡ Some []
taken_whole depth bytes f =
    rw (alone_read depth bytes f.item)
    (ap (λ b. cond (each_inside is_fine_item depth b) (Some []) None) (before_nothing [] bytes refl)
    ∙ rw f.inside refl)

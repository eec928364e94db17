-- No namespace stands twice in a document that was read.
use Rattle.std.proofs.Common.{◌≡◌, ℕ, zero, suc, ◌-◌, cond, ltb, Bool, true, false, not, ◌&&◌, ◌||◌, List, []}
use Rattle.std.proofs.Common.{◌∷◌, length, map, Option, Some, None, option_map, Result}
use Rattle.std.proofs.Common.{Ok, Err, refl, sym, ap, ap₂, ◌∙◌, subst, arith, inl, inr}
use Rattle.std.specs.List.{list_any, list_all}
use Rattle.std.specs.Str.{is_utf8}
use Rattle.std.proofs.lemmas.Bool.{cases_Bool, and_parts, and_from, lt-ltb}
use Rattle.std.proofs.lemmas.List.{take_all}
use Rattle.base_forms.specs.Texts.{Utf8, is_among, differ}
use Rattle.base_forms.proofs.Differing.{bytes_eq-flip}
use Rattle.cbor_validity.specs.declared.head.Fault.{Fault}
use Rattle.cbor_validity.specs.declared.head.Head.{Head}
use Rattle.cbor_validity.specs.declared.head.Head.TheVariants as head
use Rattle.cbor_core.specs.Head.{head_at}
use Rattle.cbor_core.specs.Item.{item_at}
use Rattle.cbor_core.specs.Keys.{KeyMeaning, text, encoding, key_by, key_of, same_key, keys_differ, keys_in}
use Rattle.cbor_core.specs.Rules.{each_inside, is_fine_text, is_fine_map, later_rule, rule_after, broken_rule}
use Rattle.cbor_core.specs.Views.{Span, on_ok, before, cut, text_by, text_of, if_utf8, utf8_text_of, items_in}
use Rattle.cbor_core.specs.Views.{items_of, pair_up, pairs_of, map_by, inside_by, inside_of, entries_of}
use Rattle.cbor_core.specs.Views.{is_text, find_in}
use Rattle.mdoc_items.specs.MapFields.{Entries}
use Rattle.mdoc_items.specs.IssuerSignedItems.{Namespace, all_items, namespace_in, all_namespaces}
use Rattle.mdoc_view.proofs.Options.{split, split_map}

-- ---- the keys of a map inside a map

none_inside : (P : Span → Bool) → list_all P (items_in []) ≡ true
unfolding items_in cut
none_inside P = refl

module _ (P : Span → Bool) where
  pairs_at : (r : Result (Head × List ℕ) Fault)
      → list_all P (items_in (on_ok r (λ h. inside_by h.0 h.1) [])) ≡ true
      → list_all P (items_in (on_ok r (λ h. map_by h.0 h.1) [])) ≡ true
  pairs_at (Err f) h = none_inside P
  pairs_at (Ok (head.Map (Some n), back)) h = h
  pairs_at (Ok (head.Map None, back)) h = h
  pairs_at (Ok (head.Text n, back)) h = none_inside P
  pairs_at (Ok (head.Unsigned n, back)) h = none_inside P
  pairs_at (Ok (head.Negative n, back)) h = none_inside P
  pairs_at (Ok (head.Bytes n, back)) h = none_inside P
  pairs_at (Ok (head.List n, back)) h = none_inside P
  pairs_at (Ok (head.Tag n, back)) h = none_inside P
  pairs_at (Ok (head.Simple n, back)) h = none_inside P
  pairs_at (Ok (head.Float, back)) h = none_inside P
  pairs_at (Ok (head.Break, back)) h = none_inside P

  pairs_inside : (bytes : List ℕ) → list_all P (items_in (inside_of bytes)) ≡ true
      → list_all P (items_in (pairs_of bytes)) ≡ true
  unfolding inside_of pairs_of
  pairs_inside bytes h = pairs_at (head_at bytes) h

  values_inside : (is : List Span) → list_all P is ≡ true → list_all (λ e. P e.1) (pair_up is) ≡ true
  values_inside [] h = refl
  values_inside (k ∷ []) h = refl
  values_inside (k ∷ v ∷ is) h =
      let a = and_parts (P k) (P v && list_all P is) h in
      let b = and_parts (P v) (list_all P is) a.1 in
      and_from (P v) (list_all (λ e. P e.1) (pair_up is)) b.0 (values_inside is b.1)

  found_inside : (name : Utf8) (es : Entries) (item : Span) → list_all (λ e. P e.1) es ≡ true
      → find_in name es ≡ Some item → P item ≡ true
  found_inside name [] item h e = absurd cc
  found_inside name (x ∷ es) item h e =
      let both = and_parts (P x.1) (list_all (λ y. P y.1) es) h in
      elim (cases_Bool (is_text name x.0)) [
        | inl is ↦ let same : Some x.1 ≡ Some item = (rw is at e) in let here : x.1 ≡ item =
            cc in subst (λ s. P s ≡ true) here both.0
        | inr other ↦ let later : find_in name es ≡ Some item =
            (rw other at e) in found_inside name es item both.1 later
      ]

fine_map : (depth : ℕ) (bytes : List ℕ) → each_inside is_fine_map depth bytes ≡ true
    → is_fine_map bytes ≡ true
unfolding each_inside
fine_map zero bytes h = h
fine_map (suc depth) bytes h =
    (and_parts (is_fine_map bytes)
    (list_all (each_inside is_fine_map depth) (items_in (inside_of bytes))) h).0

each_item : (depth : ℕ) (bytes : List ℕ) → each_inside is_fine_map (suc depth) bytes ≡ true
    → list_all (each_inside is_fine_map depth) (items_in (inside_of bytes)) ≡ true
unfolding each_inside
each_item depth bytes h =
    (and_parts (is_fine_map bytes)
    (list_all (each_inside is_fine_map depth) (items_in (inside_of bytes))) h).1

all_before : (bytes : List ℕ) → before [] bytes ≡ bytes
all_before bytes = take_all (length bytes - 0) bytes (omega arith)

later_parts : (depth : ℕ) (item rest : List ℕ) → later_rule depth item rest ≡ None
    → (each_inside is_fine_map depth item ≡ true) × (rest ≡ [])
later_parts depth item rest e =
    go (each_inside is_fine_text depth item) (each_inside is_fine_map depth item) rest e
  where
    go : (t m : Bool) (rest : List ℕ)
        → cond {A = Option ℕ} (not t) (Some 4)
        (cond (not m) (Some 5) (cond (ltb 0 (length rest)) (Some 7) None)) ≡ None → (m ≡ true) × (rest ≡ [])
    go true true [] e = (refl, refl)
    go true true (b ∷ bs) e =
        let some : ltb 0 (length (b ∷ bs)) ≡ true = lt-ltb 0 (length (b ∷ bs)) (omega arith) in
        absurd (let seven : Some 7 ≡ None = sym (ap (λ (c : Bool). cond {A = Option ℕ} c (Some 7) None) some)
        ∙ e in cc)
    go true false rest e = absurd cc
    go false m rest e = absurd cc

whole_fine : (depth : ℕ) (bytes : List ℕ) → broken_rule depth bytes ≡ None
    → each_inside is_fine_map depth bytes ≡ true
unfolding broken_rule
whole_fine depth bytes h = at (item_at depth bytes) h
  where
    at : (r : Result (List ℕ) Fault) → rule_after depth bytes r ≡ None
        → each_inside is_fine_map depth bytes ≡ true
    at (Err f) e = absurd cc
    at (Ok rest) e =
        let parts = later_parts depth (before rest bytes) rest e in
        let same : before rest bytes ≡ bytes = ap (λ z. before z bytes) parts.1 ∙ all_before bytes in
        subst (λ z. each_inside is_fine_map depth z ≡ true) same parts.0

-- the keys of a map that stands in another under a name
pub inner_keys : (depth : ℕ) (bytes : List ℕ) (name : Utf8) (item : Span)
    → broken_rule (suc depth) bytes ≡ None → find_in name (entries_of bytes) ≡ Some item
    → keys_differ (keys_in (entries_of item)) ≡ true
inner_keys depth bytes name item h e =
    let inside = pairs_inside (each_inside is_fine_map depth) bytes
    (each_item depth bytes (whole_fine (suc depth) bytes h)) in
    fine_map depth item
    (found_inside (each_inside is_fine_map depth) name (entries_of bytes) item
    (values_inside (each_inside is_fine_map depth) (items_in (pairs_of bytes)) inside) e)

-- ---- keys that are texts

utf8_if : (t name : List ℕ) → if_utf8 t ≡ Some name → t ≡ name
utf8_if t name e = elim (cases_Bool (is_utf8 t)) [
  | inl is ↦ let same : Some t ≡ Some name = (rw is at e) in cc
  | inr wrong ↦ absurd (let none : None ≡ Some name = (rw wrong at e) in cc)
]

utf8_said : (key : Span) (name : Utf8) → utf8_text_of key ≡ Some name → text_of key ≡ Some name
unfolding utf8_text_of
utf8_said key name e =
    let a = split if_utf8 (text_of key) name e in
    a.1 ∙ ap Some (utf8_if a.0 name a.2)

key_at : (span t : List ℕ) (r : Result (Head × List ℕ) Fault) → on_ok r (λ h. text_by h.0 h.1) None ≡ Some t
    → on_ok r (λ h. key_by span h.0 h.1) (encoding span) ≡ text t
key_at span t (Err f) e = absurd cc
key_at span t (Ok (head.Text n, back)) e = let same : back ≡ t = cc in ap text same
key_at span t (Ok (head.Unsigned n, back)) e = absurd cc
key_at span t (Ok (head.Negative n, back)) e = absurd cc
key_at span t (Ok (head.Bytes n, back)) e = absurd cc
key_at span t (Ok (head.List n, back)) e = absurd cc
key_at span t (Ok (head.Map n, back)) e = absurd cc
key_at span t (Ok (head.Tag n, back)) e = absurd cc
key_at span t (Ok (head.Simple n, back)) e = absurd cc
key_at span t (Ok (head.Float, back)) e = absurd cc
key_at span t (Ok (head.Break, back)) e = absurd cc

text_key : (span t : List ℕ) → text_of span ≡ Some t → key_of span ≡ text t
unfolding text_of key_of
text_key span t e = key_at span t (head_at span) e

among_same : (x : Utf8) (xs : List Utf8) → list_any (same_key (text x)) (map text xs) ≡ is_among x xs
among_same x [] = refl
among_same x (y ∷ ys) = ap₂ (λ (a b : Bool). a || b) (bytes_eq-flip x y) (among_same x ys)

differ_keys : (xs : List Utf8) → keys_differ (map text xs) ≡ differ xs
differ_keys [] = refl
differ_keys (x ∷ xs) = ap₂ (λ (a b : Bool). not a && b) (among_same x xs) (differ_keys xs)

abbrev pub names_of : List Namespace → List Utf8
names_of ns = map (λ n. n.name) ns

keys_are : (es : Entries) (ns : List Namespace) → all_namespaces es ≡ Some ns
    → keys_in es ≡ map text (names_of ns)
keys_are [] ns e = let same : [] ≡ ns = cc in ap (λ ms. map text (names_of ms)) same
keys_are (x ∷ es) ns e =
    let a = split (λ y. option_map (λ ys. y ∷ ys) (all_namespaces es)) (namespace_in x) ns e in
    let b = split_map (λ ys. a.0 ∷ ys) (all_namespaces es) ns a.2 in
    let n = split (λ name. option_map (λ items. record { name = name; items = items })
    (all_items (items_of x.1))) (utf8_text_of x.0) a.0 a.1 in
    let m = split_map (λ items. record { name = n.0; items = items }) (all_items (items_of x.1)) a.0 n.2 in
    let name : n.0 ≡ (a.0).name = ap (λ (k : Namespace). k.name) m.2 in
    ap₂ (λ (k : KeyMeaning) (ks : List KeyMeaning). k ∷ ks) (text_key x.0 n.0 (utf8_said x.0 n.0 n.1)
    ∙ ap text name) (keys_are es b.0 b.1)
    ∙ ap (λ ms. map text (names_of ms)) b.2

pub names_differ : (es : Entries) (ns : List Namespace) → all_namespaces es ≡ Some ns
    → keys_differ (keys_in es) ≡ true → differ (names_of ns) ≡ true
names_differ es ns f d = sym (differ_keys (names_of ns)) ∙ ap keys_differ (sym (keys_are es ns f)) ∙ d

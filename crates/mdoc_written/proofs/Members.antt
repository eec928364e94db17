-- The members of an object in memory, encoded and in the order of their keys.
use Rattle.std.proofs.Common.{◌≡◌, ℕ, ◌<◌, ◌≤◌, ◌^◌, List, [], ◌∷◌, ◌++◌, length, map, String, Global, Vec}
use Rattle.std.proofs.Common.{Less}
use Rattle.std.proofs.Common.{string_bytes, true, refl, sym, ap, ◌∙◌, subst, arith}
use Rattle.std.proofs.Common.{append-nil, suc}
use Rattle.std.specs.List.{list_all, concat, AllByRecursion}
use Rattle.std.specs.List.Sorted.{IsStrictlySortedBy}
use Rattle.std.specs.Ordering.{is_lt, nat_cmp}
use Rattle.std.specs.Cmp.Lexicographic.{slice_cmp}
use Rattle.std.specs.String.{string_cmp}
use Rattle.std.proofs.lemmas.Bool.{and_from}
use Rattle.std.proofs.lemmas.List.Sorted.{length_permutation}
use Rattle.serde_json.specs.Data.{Data, Items, no_items, item, Members as Fields, no_members as no_fields}
use Rattle.serde_json.specs.Data.{member as field}
use Rattle.serde_json.specs.View.{view, items_view, members_view}
use Rattle.serde_json.specs.declared.value.Value.{Value}
use Rattle.serde_json.proofs.Views.{Entry}
use Rattle.claim_tree.specs.Tree.{ascend}
use Rattle.cbor_core.specs.Order.{Pair, owned, AppendsSortedMap}
use Rattle.cbor_core.specs.Writing.{head_bytes, text_bytes, pairs_bytes}
use Rattle.mdoc_written.specs.Containers.{by_key, sorted_map_bytes, named}
use Rattle.mdoc_written.specs.Element.{element_bytes, encodings, named_encodings}
use Rattle.mdoc_written.specs.Laws.{names_of}
use Rattle.mdoc_written.proofs.Lengths.{behind_head}
use Rattle.mdoc_written.proofs.Sorting.{order_is, by_key_length}
use Rattle.mdoc_written.proofs.Values.{ShortNames, all_apart}

-- ---- the names ascend

above_first : (k : String Global) (es : List Entry)
    → AllByRecursion (λ y. string_cmp k y ≡ Less) (map (λ e. e.0) es)
    → list_all (λ l. is_lt (slice_cmp nat_cmp (string_bytes k) l)) (names_of (members_view es)) ≡ true
above_first k [] h = refl
above_first k (e ∷ es) h =
    and_from (is_lt (slice_cmp nat_cmp (string_bytes k) (string_bytes e.0)))
    (list_all (λ l. is_lt (slice_cmp nat_cmp (string_bytes k) l)) (names_of (members_view es))) (ap is_lt h.0)
    (above_first k es h.1)

pub names_ascend : (es : List Entry) → IsStrictlySortedBy string_cmp (map (λ e. e.0) es)
    → ascend (names_of (members_view es)) ≡ true
unfolding IsStrictlySortedBy
names_ascend [] h = refl
names_ascend (e ∷ es) h =
    and_from (list_all (λ l. is_lt (slice_cmp nat_cmp (string_bytes e.0) l)) (names_of (members_view es)))
    (ascend (names_of (members_view es))) (above_first e.0 es h.0) (names_ascend es h.1)

-- ---- the names are short, since their encodings are in memory

vec_short : (v : Vec ℕ Global) → length v.items < 2 ^ 64
vec_short v = omega (arith, v.ok.0, v.small)

key_short : (k : List ℕ) (v : Vec ℕ Global) → v.items ≡ text_bytes k → length k < 2 ^ 64
key_short k v e = omega (arith, ap length e, behind_head 3 (length k) k, vec_short v)

first_and_rest : (p q : Pair) (ps qs : List Pair) → p ∷ ps ≡ q ∷ qs → (p ≡ q) × (ps ≡ qs)
first_and_rest p q ps qs e = (cc, cc)

pub names_short : (ps : List (Vec ℕ Global × Vec ℕ Global)) (ms : Fields) → owned ps ≡ named_encodings ms
    → ShortNames ms
names_short ps no_fields e = tt
names_short [] (field k d ms) e = absurd cc
names_short (p ∷ ps) (field k d ms) e =
    let parts =
    first_and_rest (p.0.items, p.1.items) (named k (element_bytes d)) (owned ps) (named_encodings ms) e in
    (key_short k p.0 (ap (λ (x : Pair). x.0) parts.0), names_short ps ms parts.1)

-- ---- the map

map_of_order : (ps order : List Pair) (old new : List ℕ) → order ≡ by_key ps → old ≡ []
    → new ≡ old ++ (head_bytes 5 (length ps) ++ pairs_bytes order) → new ≡ sorted_map_bytes ps
map_of_order ps order old new is empty e = rw (e, empty, is, by_key_length ps) refl

pub map_written : (es : List Entry) (pairs : List (Vec ℕ Global × Vec ℕ Global)) (lent : List Pair)
    (old new : List ℕ) → IsStrictlySortedBy string_cmp (map (λ e. e.0) es)
    → owned pairs ≡ named_encodings (members_view es) → lent ≡ owned pairs → old ≡ []
    → AppendsSortedMap old new lent → new ≡ sorted_map_bytes (named_encodings (members_view es))
map_written es pairs lent old new up e same empty w =
    let ms = members_view es in
    let written : AppendsSortedMap old new (named_encodings ms) =
    subst (AppendsSortedMap old new) (same ∙ e) w in
    map_of_order (named_encodings ms) written.0 old new
    (order_is (named_encodings ms) written.0
    (all_apart ms (names_short pairs ms e) (names_ascend es up)) written.1)
    empty written.2

pub all_taken : (ps target : List Pair) (left : List Entry)
    → ps ++ named_encodings (members_view left) ≡ target → left ≡ [] → ps ≡ target
all_taken ps target left e end =
    sym (ap (λ (xs : List Entry). ps ++ named_encodings (members_view xs)) end ∙ append-nil ps) ∙ e

-- ---- lists

pub encodings_length : (vs : List Value) → length (encodings (items_view vs)) ≡ length vs
encodings_length [] = refl
encodings_length (v ∷ vs) = ap suc (encodings_length vs)

-- Names in memory ascend, and are short.
use Rattle.std.proofs.Common.{◌≡◌, ℕ, ◌<◌, ◌≤◌, ◌^◌, true, List, [], ◌∷◌, length, map, String, Global, Vec}
use Rattle.std.proofs.Common.{Less}
use Rattle.std.proofs.Common.{string_bytes, nat_cmp, refl, sym, ap, ◌∙◌, subst, arith, append-nil, ◌++◌}
use Rattle.std.specs.List.{list_all, AllByRecursion}
use Rattle.std.specs.List.Sorted.{IsStrictlySortedBy}
use Rattle.std.specs.Ordering.{is_lt}
use Rattle.std.specs.Cmp.Lexicographic.{slice_cmp}
use Rattle.std.specs.String.{string_cmp}
use Rattle.std.proofs.lemmas.Bool.{and_from}
use Rattle.serde_json.specs.View.{members_view}
use Rattle.serde_json.proofs.Views.{Entry}
use Rattle.claim_tree.specs.Tree.{ascend}
use Rattle.mdoc_items.specs.IssuerSignedItems.{most_items}
use Rattle.mdoc_object.specs.Namespaces.{WrittenNamespace, element_count, namespaces_from, written_namespaces}
use Rattle.mdoc_object.specs.code.Written.{AllDiffer}
use Rattle.mdoc_object.proofs.Differing.{all_differ}
use Rattle.mdoc_written.specs.Laws.{names_of}
use Rattle.mdoc_written.proofs.Values.{ShortNames}

above_first : (k : String Global) (es : List Entry)
    → AllByRecursion (λ y. string_cmp k y ≡ Less) (map (λ e. e.0) es)
    → list_all (λ l. is_lt (slice_cmp nat_cmp (string_bytes k) l)) (names_of (members_view es)) ≡ true
above_first k [] h = refl
above_first k (e ∷ es) h =
    and_from (is_lt (slice_cmp nat_cmp (string_bytes k) (string_bytes e.0)))
    (list_all (λ l. is_lt (slice_cmp nat_cmp (string_bytes k) l)) (names_of (members_view es))) (ap is_lt h.0)
    (above_first k es h.1)

names_ascend : (es : List Entry) → IsStrictlySortedBy string_cmp (map (λ e. e.0) es)
    → ascend (names_of (members_view es)) ≡ true
unfolding IsStrictlySortedBy
names_ascend [] h = refl
names_ascend (e ∷ es) h =
    and_from (list_all (λ l. is_lt (slice_cmp nat_cmp (string_bytes e.0) l)) (names_of (members_view es)))
    (ascend (names_of (members_view es))) (above_first e.0 es h.0) (names_ascend es h.1)

vec_short : (v : Vec ℕ Global) → length v.items < 2 ^ 64
vec_short v = omega (arith, v.ok.0, v.small)

names_short : (es : List Entry) → ShortNames (members_view es)
names_short [] = tt
names_short (e ∷ es) = (vec_short e.0.bytes, names_short es)

pub written_differ : (es : List Entry) (ns : List WrittenNamespace)
    → IsStrictlySortedBy string_cmp (map (λ e. e.0) es) → element_count (members_view es) ≤ most_items
    → ns ≡ written_namespaces (members_view es) → AllDiffer ns
written_differ es ns up few e =
    subst AllDiffer (sym e) (all_differ (members_view es) (names_short es) (names_ascend es up) few)

-- no namespace is left
pub all_written : (ns target : List WrittenNamespace) (n : ℕ) (left : List Entry)
    → ns ++ namespaces_from n (members_view left) ≡ target → left ≡ [] → ns ≡ target
all_written ns target n left e end =
    sym (ap (λ (xs : List Entry). ns ++ namespaces_from n (members_view xs)) end ∙ append-nil ns) ∙ e

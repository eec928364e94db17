-- The namespaces of a spec, of which each has a name of its own.
use Rattle.std.proofs.Common.{◌≡◌, ℕ, ◌+◌, ◌<◌, ◌≤◌, ◌^◌, true, false, List, [], ◌∷◌, length, map, Equal}
use Rattle.std.proofs.Common.{nat_cmp, refl, sym, ap, ◌∙◌, arith, inl, inr}
use Rattle.std.specs.List.{AllByRecursion, list_all, concat}
use Rattle.std.specs.Ordering.{is_lt}
use Rattle.std.specs.Cmp.Lexicographic.{slice_cmp}
use Rattle.std.specs.Str.{bytes_eq}
use Rattle.std.proofs.lemmas.Bool.{and_parts, cases_Bool}
use Rattle.std.proofs.lemmas.Cmp.{nat_list_cmp_total, tied_itself}
use Rattle.serde_json.specs.Data.{Data, null, boolean, number, string, array, object}
use Rattle.serde_json.specs.Data.{Members as Fields, no_members as no_fields, member as field}
use Rattle.base_forms.specs.Texts.{Utf8}
use Rattle.base_forms.proofs.Differing.{same_from}
use Rattle.claim_tree.specs.Tree.{ascend}
use Rattle.cbor_core.specs.Order.{Pair}
use Rattle.cbor_core.specs.Views.{Span}
use Rattle.cbor_core.specs.Writing.{pairs_bytes}
use Rattle.mdoc_object.specs.Namespaces.{WrittenItem, WrittenNamespace, elements_in, member_count}
use Rattle.mdoc_object.specs.Namespaces.{element_count}
use Rattle.mdoc_object.specs.Namespaces.{items_from, namespaces_from, items_entry}
use Rattle.mdoc_written.specs.Containers.{named, AllRelated}
use Rattle.mdoc_written.specs.Laws.{IsText, names_of, AreMembers}
use Rattle.mdoc_written.proofs.Lengths.{behind_head, pair_length}
use Rattle.mdoc_written.proofs.Texts.{key_is}
use Rattle.mdoc_written.proofs.Values.{text_shorter}
use Rattle.mdoc_issue.specs.Spec.{IsNamespace, AreNamespaces}
use Rattle.mdoc_issue.proofs.SortedMaps.{KeysApart}

-- a namespace, its elements, and the number of the first of them
pub record Space : Type 0 where
  pub number : ℕ
  pub name : Utf8
  pub elements : Fields

abbrev pub spaces_from : ℕ → Fields → List Space
spaces_from n no_fields = []
spaces_from n (field k d ms) =
    record { number = n; name = k; elements = elements_in d } ∷ spaces_from
    (n + member_count (elements_in d)) ms

abbrev pub items_of : Space → List WrittenItem
items_of s = items_from s.number s.elements

abbrev pub spans_of : Space → List Span
spans_of s = map (λ i. i.bytes) (items_of s)

abbrev pub written : Space → WrittenNamespace
written s = record { name = s.name; items = items_of s }

pub written_from : (n : ℕ) (ms : Fields) → namespaces_from n ms ≡ map written (spaces_from n ms)
written_from n no_fields = refl
written_from n (field k d ms) =
    ap (λ (ws : List WrittenNamespace). written
    (record { number = n; name = k; elements = elements_in d }) ∷ ws)
    (written_from (n + member_count (elements_in d)) ms)

-- ---- what is known of each

-- its name is a short text, its names ascend, its values may be written, its items are short and few
pub record IsGood (s : Space) : Type 0 where
  pub of_text : IsText s.name
  pub short : length s.name < 2 ^ 64
  pub up : ascend (names_of s.elements) ≡ true
  pub members : AreMembers s.elements 31
  pub spans_short : length (concat (spans_of s)) < 2 ^ 64
  pub few : s.number + member_count s.elements ≤ 1_024

namespace_parts : (d : Data) → IsNamespace d
    → (ascend (names_of (elements_in d)) ≡ true) × AreMembers (elements_in d) 31
namespace_parts null is = absurd is
namespace_parts (boolean b) is = absurd is
namespace_parts (number n) is = absurd is
namespace_parts (string s) is = absurd is
namespace_parts (array ds) is = absurd is
namespace_parts (object ms) is = (is.0, is.1)

pub all_good : (n : ℕ) (ms : Fields) → AreNamespaces ms → n + element_count ms ≤ 1_024
    → length (pairs_bytes (map items_entry (namespaces_from n ms))) < 2 ^ 64
    → AllByRecursion IsGood (spaces_from n ms)
all_good n no_fields are few short = tt
all_good n (field k d ms) are few short =
    let here : Space = record { number = n; name = k; elements = elements_in d } in
    let later = namespaces_from (n + member_count (elements_in d)) ms in
    let length_is = pair_length (items_entry (written here)) (map items_entry later) in
    let parts = namespace_parts d are.1 in (
      record {
        of_text = are.0;
        short = omega (arith, short, length_is, text_shorter k);
        up = parts.0;
        members = parts.1;
        spans_short = omega (
          arith,
          short,
          length_is,
          behind_head 4 (length (spans_of here))
              (concat (spans_of here)),
        );
        few = omega (arith, few);
      },
      all_good (n + member_count (elements_in d)) ms are.2 (omega (arith, few))
          (omega (arith, short, length_is)),
    )

-- ---- the names differ

pub record Unlike (s t : Space) : Type 0 where
  pub other : bytes_eq s.name t.name ≡ false
  pub same_other : bytes_eq t.name s.name ≡ false

pub unlike_flip : (s t : Space) → Unlike s t → Unlike t s
unlike_flip s t u = record { other = u.same_other; same_other = u.other }

not_equal : (k l : Utf8) → (k ≡ l → ⊥) → bytes_eq k l ≡ false
not_equal k l apart = elim (cases_Bool (bytes_eq k l)) [
  | inl is ↦ absurd (apart (same_from k l is))
  | inr not ↦ not
]

below_other : (k l : Utf8) → is_lt (slice_cmp nat_cmp k l) ≡ true → k ≡ l → ⊥
below_other k l less same =
    let tied : slice_cmp nat_cmp k l ≡ Equal =
    ap (slice_cmp nat_cmp k) (sym same) ∙ tied_itself nat_list_cmp_total k in
    let no_way : true ≡ false = sym less ∙ ap is_lt tied in cc

one_unlike : (s : Space) (n : ℕ) (ms : Fields)
    → list_all (λ l. is_lt (slice_cmp nat_cmp s.name l)) (names_of ms) ≡ true
    → AllByRecursion (Unlike s) (spaces_from n ms)
one_unlike s n no_fields below = tt
one_unlike s n (field l d ms) below =
    let less = λ (m : List ℕ). is_lt (slice_cmp nat_cmp s.name m) in
    let both = and_parts (less l) (list_all less (names_of ms)) below in
    let other = below_other s.name l both.0 in (
      record { other = not_equal s.name l other; same_other = not_equal l s.name (λ e. other (sym e)) },
      one_unlike s (n + member_count (elements_in d)) ms both.1,
    )

pub all_unlike : (n : ℕ) (ms : Fields) → ascend (names_of ms) ≡ true → AllRelated Unlike (spaces_from n ms)
all_unlike n no_fields up = tt
all_unlike n (field k d ms) up =
    let less = λ (m : List ℕ). is_lt (slice_cmp nat_cmp k m) in
    let both = and_parts (list_all less (names_of ms)) (ascend (names_of ms)) up in (
      one_unlike (record { number = n; name = k; elements = elements_in d })
          (n + member_count (elements_in d)) ms both.0,
      all_unlike (n + member_count (elements_in d)) ms both.1,
    )

-- ---- names as keys of a map, each with what is made of its namespace

abbrev pub entry : (Space → Span) → Space → Pair
entry g s = named s.name (g s)

pub keys_apart : (g : Space → Span) (s t : Space) → length s.name < 2 ^ 64 → length t.name < 2 ^ 64
    → Unlike s t
    → KeysApart (entry g) s t
keys_apart g s t p q u = (
  rw (key_is s.name p, key_is t.name q) u.other,
  rw
      (key_is s.name p, key_is t.name q) u.same_other,
)

-- a relation that holds of each two, of which a property holds
module _ {W : Type 0} (P : W → Type 0) (R S : W → W → Type 0)
    (make : (w v : W) → P w → P v → R w v → S w v) where
  each_with : (w : W) (vs : List W) → P w → AllByRecursion P vs → AllByRecursion (R w) vs
      → AllByRecursion (S w) vs
  each_with w [] here ps rs = tt
  each_with w (v ∷ vs) here ps rs = (make w v here ps.0 rs.0, each_with w vs here ps.1 rs.1)

  pub related_with : (ws : List W) → AllByRecursion P ws → AllRelated R ws → AllRelated S ws
  related_with [] all related = tt
  related_with (w ∷ ws) all related =
      (each_with w ws all.0 all.1 related.0, related_with ws all.1 related.1)

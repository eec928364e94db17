-- Maps whose keys are written texts.
use Rattle.std.proofs.Common.{◌≡◌, ℕ, ◌<◌, ◌^◌, Bool, true, false, not, ◌&&◌, ◌||◌, List, [], ◌∷◌, length}
use Rattle.std.proofs.Common.{map, Some, None, option_and_then, Result, Ok, Err, Less, Equal, refl, sym, ap}
use Rattle.std.proofs.Common.{ap₂}
use Rattle.std.proofs.Common.{◌∙◌, arith, cond, inl, inr}
use Rattle.std.specs.List.{AllByRecursion, list_any}
use Rattle.std.specs.Ordering.{is_eq}
use Rattle.std.specs.Str.{is_utf8, bytes_eq}
use Rattle.std.proofs.lemmas.Bool.{cases_Bool, and_from}
use Rattle.std.proofs.lemmas.Map.Text.{is_eq-slice_cmp}
use Rattle.std.proofs.lemmas.Slice.Eq.{bytes_eq-Decides}
use Rattle.base_forms.specs.Texts.{is_among, differ}
use Rattle.base_forms.proofs.Differing.{bytes_eq-flip, same_from}
use Rattle.cbor_validity.specs.declared.head.Fault.{Fault}
use Rattle.cbor_validity.specs.declared.head.TheConstants.{MAX_DEPTH}
use Rattle.cbor_validity.specs.declared.head.Head.{Head}
use Rattle.cbor_validity.specs.declared.head.Head.TheVariants as head
use Rattle.cbor_core.specs.Head.{head_at}
use Rattle.cbor_core.specs.Keys.{text, encoding, key_by, key_of, same_key, keys_differ, keys_in}
use Rattle.cbor_core.specs.Order.{Pair}
use Rattle.cbor_core.specs.Views.{Span, on_ok, is_map, kind_of, text_by, text_of, if_utf8, utf8_text_of}
use Rattle.cbor_core.specs.Views.{is_text}
use Rattle.cbor_core.specs.Views.{entries_of, find_in}
use Rattle.cbor_core.specs.Writing.{text_bytes, pairs_bytes}
use Rattle.cbor_core.proofs.Written.{head_again, map_head_of, reads_text, reads_map}
use Rattle.cbor_core.proofs.FineWritten.{AreFinePairs, fine_text_written, pair_items}
use Rattle.cbor_core.proofs.Fine.{IsFine}
use Rattle.mdoc_items.proofs.SortedOnce.{IsAscending}
use Rattle.mdoc_items.specs.MapFields.{map_of}
use Rattle.mdoc_written.specs.Containers.{map_bytes, named}
use Rattle.mdoc_written.proofs.Sorting.{by_first, Differ, Strict}

-- ---- a text

pub utf8_written : (name : List ℕ) → length name < 2 ^ 64 → is_utf8 name ≡ true
    → utf8_text_of (text_bytes name) ≡ Some name
unfolding utf8_text_of
utf8_written name lt u = ap (option_and_then if_utf8) (reads_text name lt).1 ∙ rw u refl

key_at : (span t : List ℕ) (r : Result (Head × List ℕ) Fault) → on_ok r (λ h. text_by h.0 h.1) None ≡ Some t
    → on_ok r (λ h. key_by span h.0 h.1) (encoding span) ≡ text t
key_at span t (Err f) e = absurd cc
key_at span t (Ok (head.Text n, back)) e = let same : back ≡ t = cc in ap text same
key_at span t (Ok (head.Unsigned n, back)) e = absurd cc
key_at span t (Ok (head.Negative n, back)) e = absurd cc
key_at span t (Ok (head.Bytes n, back)) e = absurd cc
key_at span t (Ok (head.List n, back)) e = absurd cc
key_at span t (Ok (head.Map n, back)) e = absurd cc
key_at span t (Ok (head.Tag n, back)) e = absurd cc
key_at span t (Ok (head.Simple n, back)) e = absurd cc
key_at span t (Ok (head.Float, back)) e = absurd cc
key_at span t (Ok (head.Break, back)) e = absurd cc

text_key : (span t : List ℕ) → text_of span ≡ Some t → key_of span ≡ text t
unfolding text_of key_of
text_key span t e = key_at span t (head_at span) e

pub key_is : (name : List ℕ) → length name < 2 ^ 64 → key_of (text_bytes name) ≡ text name
key_is name lt = text_key (text_bytes name) name (reads_text name lt).1

-- ---- keys that are texts differ where these do

-- the key is a text that is not too long
abbrev pub HasTextKey : Pair → Type 0
HasTextKey p = (t : List ℕ) × (length t < 2 ^ 64) × (p.0 ≡ text_bytes t)

pub text_apart : (s t : List ℕ) (x y : Span) → length s < 2 ^ 64 → length t < 2 ^ 64 → (s ≡ t → ⊥)
    → Differ (named s x) (named t y)
text_apart s t x y p q apart f =
    let same : text_bytes s ≡ text_bytes t =
    same_from (text_bytes s) (text_bytes t)
    (sym (is_eq-slice_cmp (text_bytes s) (text_bytes t)) ∙ ap is_eq f) in
    let texts : Some s ≡ Some t = sym (reads_text s p).1 ∙ ap text_of same ∙ (reads_text t q).1 in
    apart cc

other_text : (s t : List ℕ) → length s < 2 ^ 64 → length t < 2 ^ 64
    → by_first (named s []) (named t []) ≡ Less → bytes_eq s t ≡ false
other_text s t p q e = elim (cases_Bool (bytes_eq s t)) [
  | inl is ↦ absurd (
      let same = same_from s t is in
      let equal : is_eq (by_first (named s []) (named t [])) ≡ true =
      is_eq-slice_cmp (text_bytes s) (text_bytes t)
      ∙ (bytes_eq-Decides (text_bytes s) (text_bytes t)).1 (ap text_bytes same) in
      let no_way : true ≡ false = sym equal ∙ ap is_eq e in cc)
  | inr not ↦ not
]

key_less : (p q : Pair) (s t : List ℕ) → length s < 2 ^ 64 → length t < 2 ^ 64 → p.0 ≡ text_bytes s
    → q.0 ≡ text_bytes t → by_first p q ≡ Less → same_key (key_of p.0) (key_of q.0) ≡ false
key_less p q s t ps qs ep eq e =
    let less : by_first (named s []) (named t []) ≡ Less = rw (← ep, ← eq) e in
    rw (ep, eq, key_is s ps, key_is t qs) (other_text s t ps qs less)

none_same : (p : Pair) (qs : List Pair) → HasTextKey p → AllByRecursion HasTextKey qs
    → AllByRecursion (λ q. by_first p q ≡ Less) qs → list_any (same_key (key_of p.0)) (keys_in qs) ≡ false
none_same p [] here all less = refl
none_same p (q ∷ qs) here all less =
    rw (
      key_less p q here.0 all.0.0 here.1 all.0.1 here.2 all.0.2 less.0,
      none_same p qs here all.1 less.1,
    ) refl

pub keys_apart : (qs : List Pair) → AllByRecursion HasTextKey qs → Strict qs
    → keys_differ (keys_in qs) ≡ true
keys_apart [] all up = refl
keys_apart (q ∷ qs) all up =
    and_from (not (list_any (same_key (key_of q.0)) (keys_in qs))) (keys_differ (keys_in qs))
    (ap not (none_same q qs all.0 all.1 up.0)) (keys_apart qs all.1 up.1)

-- ---- looking up

written_text : (name wanted : List ℕ) → length name < 2 ^ 64
    → is_text wanted (text_bytes name) ≡ bytes_eq name wanted
written_text name wanted lt = rw (reads_text name lt).1 refl

pub find_first : (name : List ℕ) (value : Span) (ps : List Pair) → length name < 2 ^ 64
    → bytes_eq name name ≡ true → find_in name (named name value ∷ ps) ≡ Some value
find_first name value ps lt same = rw (written_text name name lt ∙ same) refl

pub find_later : (wanted name : List ℕ) (value : Span) (ps : List Pair) → length name < 2 ^ 64
    → bytes_eq name wanted ≡ false → find_in wanted (named name value ∷ ps) ≡ find_in wanted ps
find_later wanted name value ps lt other = rw (written_text name wanted lt ∙ other) refl

-- ---- maps

pub map_is : (pairs : List Pair) → length pairs < 2 ^ 64 → is_map (kind_of (map_bytes pairs)) ≡ true
unfolding kind_of
map_is pairs lt =
    rw (head_again 5 (length pairs) (pairs_bytes pairs) (head.Map (Some (length pairs))) lt
    (map_head_of (length pairs))) refl

pub entries_back : (depth : ℕ) (pairs : List Pair) → depth < MAX_DEPTH → length pairs < 2 ^ 64
    → AreFinePairs depth pairs → entries_of (map_bytes pairs) ≡ pairs
entries_back depth pairs less few fine = (reads_map depth pairs less few (pair_items depth pairs fine)).1

pub map_back : (depth : ℕ) (pairs : List Pair) → depth < MAX_DEPTH → length pairs < 2 ^ 64
    → AreFinePairs depth pairs → map_of (map_bytes pairs) ≡ Some pairs
map_back depth pairs less few fine =
    rw (map_is pairs few) (ap Some (entries_back depth pairs less few fine))

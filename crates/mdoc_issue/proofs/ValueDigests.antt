-- `valueDigests` is read back: each item has its digest there.
use Rattle.std.proofs.Common.{◌≡◌, ◌<◌, ◌^◌, Bool, true, false, List, [], ◌∷◌, length, map}
use Rattle.std.proofs.Common.{Option, Some, None, option_and_then, cond, is_some, refl, ap, ◌∙◌, arith}
use Rattle.std.proofs.Common.{◌&&◌}
use Rattle.std.specs.List.{AllByRecursion, list_all}
use Rattle.std.specs.Option.{option_or}
use Rattle.std.specs.Str.{bytes_eq}
use Rattle.std.proofs.lemmas.Slice.Eq.{bytes_eq-Decides}
use Rattle.base_forms.specs.Hash.{digest_by}
use Rattle.base_forms.specs.declared.hash.HashName.TheVariants.{Sha256}
use Rattle.base_forms.specs.Texts.{Utf8}
use Rattle.cbor_core.specs.Order.{Pair}
use Rattle.cbor_core.specs.Views.{Span, is_map, kind_of, entries_of, utf8_text_of}
use Rattle.cbor_core.specs.Writing.{text_bytes}
use Rattle.cbor_core.proofs.Fine.{IsFine}
use Rattle.cbor_core.proofs.FineWritten.{fine_text_written}
use Rattle.mdoc_items.specs.MapFields.{is_named}
use Rattle.mdoc_items.proofs.SortedOnce.{all_weaker}
use Rattle.mdoc_security.specs.ValueDigests.{namespace_at, digest_in, is_namespace_digests, are_digests}
use Rattle.mdoc_security.specs.ValueDigests.{is_digest_map}
use Rattle.mdoc_object.specs.ValueDigests.{digest_entry}
use Rattle.mdoc_written.specs.Containers.{sorted_map_bytes, AllRelated}
use Rattle.mdoc_written.specs.Laws.{IsText}
use Rattle.mdoc_written.proofs.Texts.{utf8_written}
use Rattle.mdoc_issue.proofs.Digests.{AreDigests, digests_read}
use Rattle.mdoc_issue.proofs.Finding.{find_last, Apart, Own, IsFound, all_found}
use Rattle.mdoc_issue.proofs.Members.{IsFound as HasDigest}
use Rattle.mdoc_issue.proofs.Placing.{sorted, all_sorted, sorted_back, related_sorted}
use Rattle.mdoc_issue.proofs.SortedMaps.{list_all_mapped, KeysApart, IsFineAt, IsRead, map_read}
use Rattle.mdoc_issue.proofs.Spaces.{Space, items_of, IsGood, Unlike, unlike_flip, entry, keys_apart}
use Rattle.mdoc_issue.proofs.Spaces.{related_with}

-- ---- finding what is made of a namespace by its name

module _ (g : Space → Span) where
  abbrev here : Space → Pair → Option Span
  here s p = cond (is_named s.name p.0) (Some p.1) None

  namespace_at_is : (s : Space) (ps : List Pair) → namespace_at s.name ps ≡ find_last (entry g) here s ps
  namespace_at_is s [] = refl
  namespace_at_is s (p ∷ ps) = ap (λ (o : Option Span). option_or o (here s p)) (namespace_at_is s ps)

  named_is : (name k : Utf8) → length k < 2 ^ 64 → IsText k → is_named name (text_bytes k) ≡ bytes_eq k name
  named_is name k lt is = rw (utf8_written k lt is) refl

  not_here : (s t : Space) → IsGood t → bytes_eq t.name s.name ≡ false → here s (entry g t) ≡ None
  not_here s t good other = rw (named_is s.name t.name good.short good.of_text, other) refl

  apart : (s t : Space) → IsGood s → IsGood t → Unlike s t → Apart (entry g) here s t
  apart s t good_s good_t u = (not_here s t good_t u.same_other, not_here t s good_s u.other)

  own : (s : Space) → IsGood s → Own (entry g) here g s
  own s good =
      rw (named_is s.name s.name good.short good.of_text, (bytes_eq-Decides s.name s.name).1 refl) refl

  abbrev IsAt : List Pair → Space → Type 0
  IsAt ps s = namespace_at s.name ps ≡ Some (g s)

  pub spaces_found : (ss : List Space) → AllByRecursion IsGood ss → AllRelated Unlike ss
      → AllByRecursion (IsAt (map (entry g) (sorted (entry g) ss))) ss
  spaces_found ss good unlike =
      let zs = sorted (entry g) ss in
      let ps = map (entry g) zs in
      let goods = all_sorted (entry g) IsGood ss good in
      sorted_back (entry g) (IsAt ps) ss
      (all_weaker (IsFound (entry g) here g ps) (IsAt ps) (λ s f. namespace_at_is s ps ∙ f) zs
      (all_found (entry g) here g zs (all_weaker IsGood (Own (entry g) here g) own zs goods)
      (related_with IsGood Unlike (Apart (entry g) here) apart zs goods
      (related_sorted (entry g) Unlike unlike_flip ss unlike))))

-- ---- the digests

abbrev pub digests_map : Space → Span
digests_map s = sorted_map_bytes (map digest_entry (items_of s))

inner : (s : Space) → IsGood s → AreDigests 29 (items_of s) (digests_map s)
inner s good = digests_read 29 s.number s.elements (omega arith) (omega (arith, good.few))

is_fine : (s : Space) → IsGood s → IsFineAt (entry digests_map) 30 s
is_fine s good = (fine_text_written 30 s.name good.short good.of_text, (inner s good).fine)

pub entry_at : (name : Option Utf8) (k : Utf8) (b : Bool) → name ≡ Some k → b ≡ true
    → (is_some name && b) ≡ true
entry_at name k b e f = rw (e, f) refl

is_entry : (s : Space) → IsGood s → is_namespace_digests (entry digests_map s) ≡ true
is_entry s good =
    entry_at (utf8_text_of (text_bytes s.name)) s.name (is_digest_map (digests_map s))
    (utf8_written s.name good.short good.of_text) (inner s good).of_form

in_namespace : (digests : List Pair) (s : Space) → IsGood s
    → namespace_at s.name digests ≡ Some (digests_map s)
    → AllByRecursion (HasDigest digests s.name) (items_of s)
in_namespace digests s good at =
    all_weaker (λ i. digest_in i.number (entries_of (digests_map s)) ≡ Some (digest_by Sha256 i.bytes))
    (HasDigest digests s.name)
    (λ i found. ap (option_and_then (λ (n : Span). digest_in i.number (entries_of n))) at ∙ found)
    (items_of s) (inner s good).found

-- the map is one item of the form, with these entries
pub record AreRead (ss : List Space) (span : Span) (digests : List Pair) : Type 0 where
  pub fine : IsFine 31 span
  pub of_form : are_digests span ≡ true
  pub entries : entries_of span ≡ digests
  pub found : AllByRecursion (λ s. AllByRecursion (HasDigest digests s.name) (items_of s)) ss

form_at : (span : Span) (entries : List Pair) → is_map (kind_of span) ≡ true → entries_of span ≡ entries
    → list_all is_namespace_digests entries ≡ true → are_digests span ≡ true
form_at span entries a b c = rw (a, b, c) refl

pub both_weaker : {W : Type 0} (P Q R : W → Type 0) → ((w : W) → P w → Q w → R w) → (ws : List W)
    → AllByRecursion P ws → AllByRecursion Q ws → AllByRecursion R ws
both_weaker P Q R make [] ps qs = tt
both_weaker P Q R make (w ∷ ws) ps qs = (make w ps.0 qs.0, both_weaker P Q R make ws ps.1 qs.1)

pub value_digests_read : (ss : List Space) → length ss < 2 ^ 64 → AllByRecursion IsGood ss
    → AllRelated Unlike ss
    → AreRead ss (sorted_map_bytes (map (entry digests_map) ss))
    (map (entry digests_map) (sorted (entry digests_map) ss))
value_digests_read ss few good unlike =
    let f = entry digests_map in
    let zs = sorted f ss in
    let span = sorted_map_bytes (map f ss) in
    let read : IsRead f 30 ss =
    map_read f 30 ss (omega arith) few (all_weaker IsGood (IsFineAt f 30) is_fine ss good)
    (related_with IsGood Unlike (KeysApart f)
    (λ s t gs gt u. keys_apart digests_map s t gs.short gt.short u) ss good unlike) in
    record {
      fine = read.fine;
      of_form = form_at span (map f zs) read.of_map read.entries
          (list_all_mapped f is_namespace_digests zs
          (all_weaker IsGood (λ s. is_namespace_digests (f s) ≡ true) is_entry zs
          (all_sorted f IsGood ss good)));
      entries = read.entries;
      found = both_weaker IsGood (λ s. namespace_at s.name (map f zs) ≡ Some (digests_map s))
          (λ s. AllByRecursion (HasDigest (map f zs) s.name) (items_of s)) (in_namespace (map f zs)) ss good
          (spaces_found digests_map ss good unlike);
    }

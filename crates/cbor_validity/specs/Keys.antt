-- When a map has a key twice (RFC 8949, section 5.6). Integers, text strings and byte strings are the same
-- key where they are equal, whatever the lengths of their heads. Any other items are the same key where their
-- encodings are equal.
use Rattle.std.specs.Prelude.{ℕ, List, [], ◌∷◌, Bool, true, false, not, ◌&&◌, ℤ, pos, negsuc, map}
use Rattle.std.specs.Ordering.{int_eq}
use Rattle.std.specs.List.{list_any}
use Rattle.std.specs.Str.{bytes_eq}
use Rattle.cbor_validity.specs.declared.head.Head.{Head}
use Rattle.cbor_validity.specs.declared.head.Head.TheVariants as head
use Rattle.cbor_validity.specs.Parts.{by_head}

-- what a key is compared by
pub data KeyMeaning : Type 0 where
  whole : ℤ → KeyMeaning
  text : List ℕ → KeyMeaning
  bytes : List ℕ → KeyMeaning
  encoding : List ℕ → KeyMeaning

abbrev pub key_by : List ℕ → Head → List ℕ → KeyMeaning
key_by span (head.Unsigned n) back = whole (pos n)
key_by span (head.Negative n) back = whole (negsuc n)
key_by span (head.Text n) back = text back
key_by span (head.Bytes n) back = bytes back
key_by span _ back = encoding span

-- the key that an item is
unfoldable pub key_of : List ℕ → KeyMeaning
key_of span = by_head (key_by span) (encoding span) span

abbrev pub same_key : KeyMeaning → KeyMeaning → Bool
same_key (whole y) (whole z) = int_eq y z
same_key (text s) (text t) = bytes_eq s t
same_key (bytes s) (bytes t) = bytes_eq s t
same_key (encoding s) (encoding t) = bytes_eq s t
same_key _ _ = false

-- the keys are distinct
abbrev pub keys_differ : List KeyMeaning → Bool
keys_differ [] = true
keys_differ (k ∷ ks) = not (list_any (same_key k) ks) && keys_differ ks

-- every key differs from the next one
abbrev pub neighbours_differ : List KeyMeaning → Bool
neighbours_differ [] = true
neighbours_differ (k ∷ []) = true
neighbours_differ (k ∷ l ∷ ks) = not (same_key k l) && neighbours_differ (l ∷ ks)

-- the keys of entries
abbrev pub keys_in : List (List ℕ × List ℕ) → List KeyMeaning
keys_in entries = map (λ e. key_of e.0) entries

-- COSE_Sign1 messages (RFC 9052, sections 3.1, 4.2 and 4.4): what one says, the first rule that it breaks,
-- and the name of the key that signed it.
use Rattle.std.specs.Prelude.{ℕ, ℤ, pos, ◌==◌, not, Bool, true, false, ◌||◌, ◌&&◌, List, [], ◌∷◌, ◌++◌, codes}
use Rattle.std.specs.Prelude.{Option, Some, None, option_map, option_and_then, unwrap_or, is_some, is_none}
use Rattle.std.specs.Prelude.{if◌then◌else◌}
use Rattle.std.specs.List.{slice_get}
use Rattle.std.specs.Option.{option_map_or, option_or}
use Rattle.std.specs.Ordering.{int_eq}
use Rattle.base_forms.specs.Base16.{hex_of}
use Rattle.base_forms.specs.Leaf.{leaf_name}
use Rattle.base_forms.specs.Rules.{rule, first}
use Rattle.cbor_core.specs.declared.kind.Kind.{Kind}
use Rattle.cbor_core.specs.declared.kind.Kind.TheVariants as kind
use Rattle.cbor_core.specs.Rules.{broken_rule}
use Rattle.cbor_core.specs.Views.{Span, is_map, kind_of, whole_of, bytes_of, tag_of, items_of, entries_of}
use Rattle.cbor_core.specs.Writing.{head_bytes, text_bytes, byte_string_bytes}
use Rattle.cose_sign1.specs.declared.payload.Payload.{Payload}
use Rattle.cose_sign1.specs.declared.payload.Payload.TheVariants.{Inside, Detached}

-- the entries of a map of headers, each label with its value
abbrev pub Headers : Type 0
Headers = List (Span × Span)

pub record Message : Type 0 where
  pub protected : List ℕ
  pub unprotected : Headers
  pub payload : Option (List ℕ)
  pub signature : List ℕ

-- ---- the form: protected bytes, unprotected map, payload, signature

-- what stands under tag 18, or the item itself
abbrev pub untagged : Span → Span
untagged item = elim (tag_of item) [ None ↦ item | Some t ↦ if t.0 == 18 then t.1 else item ]

abbrev pub is_null : Kind → Bool
is_null kind.Null = true
is_null _ = false

abbrev pub headers_in : Span → Option Headers
headers_in item = if is_map (kind_of item) then Some (entries_of item) else None

-- bytes, or null where the payload is elsewhere
abbrev pub payload_in : Span → Option (Option (List ℕ))
payload_in item = elim (bytes_of item) [
  | Some b ↦ Some (Some b)
  | None ↦ if is_null (kind_of item) then Some None else None
]

abbrev pub parts_in : List Span → Option Message
parts_in (p ∷ u ∷ c ∷ s ∷ []) =
    option_and_then (λ protected.
    option_and_then (λ unprotected.
    option_and_then (λ payload.
    option_map (λ signature. record {
      protected = protected;
      unprotected = unprotected;
      payload = payload;
      signature = signature;
    })
    (bytes_of s)) (payload_in c)) (headers_in u)) (bytes_of p)
parts_in _ = None

-- what an item of the form says
abbrev pub message_in : Span → Option Message
message_in item = parts_in (items_of (untagged item))

-- ---- headers

abbrev pub is_label : ℤ → Span → Bool
is_label n key = option_map_or (λ m. int_eq m n) (whole_of key) false

-- the value of a label
abbrev pub find_label : ℤ → Headers → Option Span
find_label n [] = None
find_label n (h ∷ hs) = if is_label n h.0 then Some h.1 else find_label n hs

-- the protected headers, whose bytes may be none
abbrev pub protected_of : List ℕ → Headers
protected_of [] = []
protected_of (b ∷ bytes) = entries_of (b ∷ bytes)

-- label 1, of the protected headers alone: the signature covers these, and not the unprotected ones
abbrev pub algorithm_in : Headers → Option ℤ
algorithm_in headers = option_and_then whole_of (find_label (pos 1) headers)

abbrev pub algorithm_of : Message → Option ℤ
algorithm_of m = algorithm_in (protected_of m.protected)

-- ---- the rules

-- one map, at most 32 levels deep
abbrev pub is_one_map : List ℕ → Bool
is_one_map bytes = is_none (broken_rule 32 bytes) && is_map (kind_of bytes)

-- label 2
abbrev pub has_critical : Headers → Bool
has_critical headers = is_some (find_label (pos 2) headers)

-- the payload is where it is expected
abbrev pub is_where : Payload → Option (List ℕ) → Bool
is_where Inside payload = is_some payload
is_where Detached payload = is_none payload

-- the bytes of the protected headers are none, or one map
unfoldable pub protected_rule : List ℕ → Option ℕ
protected_rule [] = None
protected_rule (b ∷ bytes) = rule 2 (not (is_one_map (b ∷ bytes)))

-- rules 2 to 5
abbrev pub message_rule : Payload → Message → Option ℕ
message_rule expected m = first
    (protected_rule m.protected
    ∷ rule 3 (is_none (algorithm_of m))
    ∷ rule 4 (has_critical (protected_of m.protected) || has_critical m.unprotected)
    ∷ rule 5 (not (is_where expected m.payload))
    ∷ [])

abbrev pub rule_of_parts : Payload → Option Message → Option ℕ
rule_of_parts expected None = Some 1
rule_of_parts expected (Some m) = message_rule expected m

-- the first rule that an item breaks
unfoldable pub sign1_rule : Payload → Span → Option ℕ
sign1_rule expected item = rule_of_parts expected (message_in item)

-- ---- the name of the key that signed a message

-- a certificate, or the first one of a chain (RFC 9360, section 2)
abbrev pub certificate_in : Span → Option (List ℕ)
certificate_in value = elim (bytes_of value) [
  | Some b ↦ Some b
  | None ↦ option_and_then bytes_of (slice_get (items_of value) 0)
]

-- label 33
abbrev pub leaf_in : Headers → Option (List ℕ)
leaf_in headers = option_and_then certificate_in (find_label (pos 33) headers)

-- label 4
abbrev pub key_in : Headers → Option (List ℕ)
key_in headers = option_and_then bytes_of (find_label (pos 4) headers)

-- Of the unprotected headers, or else of the protected ones. A value of another form is passed over.
abbrev pub in_either : (Headers → Option (List ℕ)) → Message → Option (List ℕ)
in_either look m = option_or (look m.unprotected) (look (protected_of m.protected))

abbrev pub named_key : List ℕ → List ℕ
named_key key = codes "mkid:" ++ hex_of key

-- the leaf certificate where there is one, and else the key's identifier
abbrev pub issuer_of : Message → List ℕ
issuer_of m = option_map_or leaf_name (in_either leaf_in m) (named_key (unwrap_or (in_either key_in m) []))

-- ---- what is signed (RFC 9052, section 4.4)

abbrev pub signed_bytes : List ℕ → List ℕ → List ℕ
signed_bytes protected payload =
    head_bytes 4 4 ++ text_bytes (codes "Signature1")
    ++ byte_string_bytes protected ++ byte_string_bytes [] ++ byte_string_bytes payload

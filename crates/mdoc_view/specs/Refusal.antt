-- The first rule that a mobile document (ISO/IEC 18013-5, sections 8.3.2.1.2.2 and 9.1.2.4) breaks, of the
-- rules of the document, of CBOR and of its issuer's signed message.
use Rattle.std.specs.Prelude.{ℕ, nat_lt, List, [], ◌∷◌, Option, Some, None, option_map, option_and_then}
use Rattle.base_forms.specs.Rules.{rule, first}
use Rattle.cbor_core.specs.Rules.{broken_rule}
use Rattle.cose_sign1.specs.declared.payload.Payload.TheVariants.{Inside}
use Rattle.cose_sign1.specs.Sign1.{message_in, sign1_rule}
use Rattle.cbor_core.specs.Views.{Span}
use Rattle.mdoc_items.specs.MapFields.{Entries}
use Rattle.mdoc_view.specs.IssuerSigned.{IssuerSigned, issuer_signed_in}
use Rattle.mdoc_security.specs.MobileSecurityObject.{MobileSecurityObject, security_object_in}
use Rattle.mdoc_security.specs.MobileSecurityObject.{hash_of, security_object_rule}
use Rattle.mdoc_items.specs.IssuerSignedItems.{Namespace, all_namespaces, item_count, most_items}
use Rattle.mdoc_view.specs.ItemRules.{digests_rule}

-- by a rule of the document, by one of its CBOR, or by one of its issuer's signed message
pub data Refusal : Type 0 where
  refused : ℕ → Refusal
  cbor : ℕ → Refusal
  cose : ℕ → Refusal

-- rules 11 to 13, where rule 10 is not broken
abbrev pub rule_of_namespaces : MobileSecurityObject → Option (List Namespace) → Option ℕ
rule_of_namespaces o None = Some 10
rule_of_namespaces o (Some ns) = digests_rule (hash_of o) o.digests ns

-- rules 9 to 13: too many items, the form of an item, digests
unfoldable pub items_rule : MobileSecurityObject → Entries → Option ℕ
items_rule o namespaces = first
    (rule 9 (nat_lt most_items (item_count namespaces))
    ∷ rule_of_namespaces o (all_namespaces namespaces)
    ∷ [])

-- rules 5 to 13, where rule 4 is not broken
abbrev pub rule_of_security_object : Entries → Option MobileSecurityObject → Option ℕ
rule_of_security_object namespaces None = Some 4
rule_of_security_object namespaces (Some o) = first (security_object_rule o ∷ items_rule o namespaces ∷ [])

-- the payload of a signed message
abbrev pub payload_of : Span → Option (List ℕ)
payload_of auth = option_and_then (λ m. m.payload) (message_in auth)

-- rules 3 to 13, by what the signed message breaks
abbrev pub refusal_past : IssuerSigned → Option ℕ → Option Refusal
refusal_past issued (Some n) = Some (cose n)
refusal_past issued None =
    option_map refused
    (rule_of_security_object issued.namespaces (security_object_in (payload_of issued.auth)))

-- rules 2 to 13
abbrev pub refusal_of_issuer_signed : Option IssuerSigned → Option Refusal
refusal_of_issuer_signed None = Some (refused 2)
refusal_of_issuer_signed (Some issued) = refusal_past issued (sign1_rule Inside issued.auth)

-- all rules, by what the bytes break as CBOR
abbrev pub refusal_by : List ℕ → Option ℕ → Option Refusal
refusal_by bytes (Some n) = Some (cbor n)
refusal_by bytes None = refusal_of_issuer_signed (issuer_signed_in bytes)

-- the first rule that bytes break
unfoldable pub refusal_of : List ℕ → Option Refusal
refusal_of bytes = refusal_by bytes (broken_rule 32 bytes)

-- What a slot of a wallet stands for: a credential that was read, or the number of the rule by which none was
-- (SD-JWT VC and RFC 9901; ISO/IEC 18013-5).
use Rattle.std.specs.Prelude.{ℕ, List, Option, Some, None, Result, Ok, Err}
use Rattle.std.specs.Option.{ok_or}
use Rattle.claim_tree.specs.Credential as claims
use Rattle.mdoc_view.specs.Reading as mdoc
use Rattle.mdoc_view.specs.Refusal as md
use Rattle.sdjwt_view.specs.Reading as sd
use Rattle.fit_table.specs.Credential.{meaning}
use Rattle.fit_table.specs.declared.wallet.Slot.{Slot}
use Rattle.fit_table.specs.declared.wallet.Slot.TheVariants.{Read, Unread}

abbrev pub Stands : Type 0
Stands = Result claims.Credential ℕ

abbrev pub slot_of : Slot → Stands
slot_of (Read c) = Ok (meaning c)
slot_of (Unread rule) = Err rule

-- ---- an SD-JWT credential, by its text

-- the number of the rule by which a text is none: the second where its issuer's JWS is refused
abbrev pub sd_rule : sd.Refusal → ℕ
sd_rule (sd.refused rule) = rule
sd_rule (sd.envelope rule) = 2

-- A text that breaks no rule always is a credential.
abbrev pub sd_reading : Option sd.Refusal → Option claims.Credential → Stands
sd_reading (Some refusal) credential = Err (sd_rule refusal)
sd_reading None credential = ok_or credential 0

abbrev pub sd_slot : List ℕ → Stands
sd_slot text = sd_reading (sd.refusal_of text) (sd.credential_in text)

-- ---- a mobile document, by its bytes

-- the number of the rule by which bytes are none: the first where they are refused as CBOR, the third where
-- their issuer's signed message is
abbrev pub md_rule : md.Refusal → ℕ
md_rule (md.refused rule) = rule
md_rule (md.cbor rule) = 1
md_rule (md.cose rule) = 3

-- Bytes that break no rule always are a document.
abbrev pub md_reading : Option md.Refusal → Option claims.Credential → Stands
md_reading (Some refusal) credential = Err (md_rule refusal)
md_reading None credential = ok_or credential 0

abbrev pub md_slot : List ℕ → Stands
md_slot bytes = md_reading (md.refusal_of bytes) (mdoc.credential_in bytes)

-- What credential files hold (SD-JWT VC and RFC 9901; ISO/IEC 18013-5), and the slots of a wallet of them.
use Rattle.std.specs.Prelude.{ℕ, List, Option, Some, None, Err, map, if◌then◌else◌}
use Rattle.std.specs.Option.{option_map_or}
use Rattle.std.specs.Str.{is_utf8}
use Rattle.claim_tree.specs.declared.facts.Format.{Format}
use Rattle.claim_tree.specs.declared.facts.Format.TheVariants.{SdJwt, Mdoc}
use Rattle.fit_table.specs.Slot.{Stands, sd_slot, md_slot}
use Rattle.wallet_files.specs.CredentialFile.{without_feed, document_in}

-- the text of an SD-JWT, the bytes of a mobile document, or neither
pub data Content : Type 0 where
  text : List ℕ → Content
  document : List ℕ → Content
  unreadable : Content

-- the text of a file, which may end in one line feed that is no part of it
abbrev pub text_in : List ℕ → Option (List ℕ)
text_in bytes = if is_utf8 bytes then Some (without_feed bytes) else None

-- what a file of these bytes holds: of a document the text is the base64url
abbrev pub content_of : Format → List ℕ → Content
content_of SdJwt bytes = option_map_or text (text_in bytes) unreadable
content_of Mdoc bytes = option_map_or document (document_in bytes) unreadable

-- ---- slots

-- What stands in the slot of a file that holds this: rule 0 is broken by a file that holds neither.
abbrev pub slot_of : Content → Stands
slot_of (text t) = sd_slot t
slot_of (document bytes) = md_slot bytes
slot_of unreadable = Err 0

-- the slots of files, in their order
abbrev pub slots_of : List Content → List Stands
slots_of contents = map slot_of contents

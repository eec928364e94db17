-- What the spec of a test SD-JWT VC asks, a JSON object: the members that are looked for, each none where it
-- is not of its form, and what they ask together. Other members are passed over.
use Rattle.std.specs.Prelude.{ℕ, List, [], codes, Option, Some, None, option_map, option_and_then}
use Rattle.std.specs.Prelude.{unwrap_or}
use Rattle.serde_json.specs.Data.{Data, Members as Fields, no_members as no_fields}
use Rattle.serde_json.specs.Find.{get, as_str, as_object}
use Rattle.base_forms.specs.Texts.{Utf8}
use Rattle.json_forms.specs.Look.{text_at}
use Rattle.claim_names.specs.declared.address.Step.{Step}
use Rattle.sdjwt_facts.specs.Facts.{moment_of}
use Rattle.sdjwt_issue.specs.Spec.{Spec}
use Rattle.sdjwt_spec.specs.Names.{kid_parts, jwk_in}
use Rattle.sdjwt_spec.specs.Addresses.{addresses_of}

-- what a member says that may be absent
abbrev pub if_there : {A : Type 0} → (Data → Option A) → Option Data → Option (Option A)
if_there f None = Some None
if_there f (Some d) = option_map Some (f d)

-- the issuer and the identifier of its key, of which the key's name is written
abbrev pub key_in : Data → Option (Utf8 × Utf8)
key_in d = option_and_then kid_parts (text_at (codes "key") d)

abbrev pub kind_in : Data → Option Utf8
kind_in d = text_at (codes "kind") d

abbrev pub holder_of : Data → Option Data
holder_of d = option_and_then jwk_in (as_str d)

-- the holder's key, where the credential is bound to one
abbrev pub holder_in : Data → Option (Option Data)
holder_in d = if_there holder_of (get (codes "holder") d)

-- a second, counted from 1970-01-01T00:00:00Z
abbrev pub moment_in : Utf8 → Data → Option (Option ℕ)
moment_in k d = if_there moment_of (get k d)

abbrev pub claims_in : Data → Option Fields
claims_in d = option_and_then as_object (get (codes "claims") d)

-- the addresses of the parts to hide
abbrev pub hide_in : Data → Option (List (List Step))
hide_in d = option_and_then addresses_of (get (codes "hide") d)

-- what the members ask, and nothing in place of one that is not of its form
abbrev pub spec_of : Data → Spec
spec_of d = let parts : Utf8 × Utf8 = unwrap_or (key_in d) ([], []) in record {
  key_name = unwrap_or (text_at (codes "key") d) [];
  issuer = parts.0;
  key = parts.1;
  kind = unwrap_or (kind_in d) [];
  holder = unwrap_or (holder_in d) None;
  from = unwrap_or (moment_in (codes "from") d) None;
  until = unwrap_or (moment_in (codes "until") d) None;
  claims = unwrap_or (claims_in d) no_fields;
  hide = unwrap_or (hide_in d) [];
}

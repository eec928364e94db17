-- What the spec of a test document asks, a JSON object: the members that are looked for, each none where it
-- is not of its form, and what they ask together. Other members are passed over.
use Rattle.std.specs.Prelude.{ℕ, ◌&&◌, not, nat_lt, List, [], codes, Option, Some, None, option_and_then}
use Rattle.std.specs.Prelude.{unwrap_or, if◌then◌else◌}
use Rattle.serde_json.specs.Data.{Data, Members as Fields, no_members as no_fields}
use Rattle.serde_json.specs.Find.{get, as_object}
use Rattle.base_forms.specs.Texts.{Utf8}
use Rattle.json_forms.specs.Look.{text_at}
use Rattle.sdjwt_facts.specs.Facts.{moment_at}
use Rattle.mdoc_issue.specs.Spec.{Spec, year_10000}
use Rattle.mdoc_spec.specs.Names.{key_identifier_in, holder_key_in}
use Rattle.mdoc_spec.specs.Elements.{are_namespaces, has_misspelled_element}

-- the identifier of the issuer's key
abbrev pub key_in : Data → Option (List ℕ)
key_in d = option_and_then key_identifier_in (text_at (codes "key") d)

abbrev pub kind_in : Data → Option Utf8
kind_in d = text_at (codes "kind") d

-- the encoding of the holder's key
abbrev pub holder_in : Data → Option (List ℕ)
holder_in d = option_and_then holder_key_in (text_at (codes "holder") d)

abbrev pub if_has_date : ℕ → Option ℕ
if_has_date seconds = if nat_lt seconds year_10000 then Some seconds else None

-- a second of a year of at most four digits
abbrev pub moment_in : Utf8 → Data → Option ℕ
moment_in k d = option_and_then if_has_date (moment_at k d)

abbrev pub if_namespaces : Fields → Option Fields
if_namespaces ms = if are_namespaces ms && not (has_misspelled_element ms) then Some ms else None

-- the namespaces with their elements
abbrev pub claims_in : Data → Option Fields
claims_in d = option_and_then if_namespaces (option_and_then as_object (get (codes "claims") d))

-- what the members ask, and nothing in place of one that is not of its form
abbrev pub spec_of : Data → Spec
spec_of d = record {
  key_name = unwrap_or (text_at (codes "key") d) [];
  key = unwrap_or (key_in d) [];
  kind = unwrap_or (kind_in d) [];
  holder = unwrap_or (holder_in d) [];
  from = unwrap_or (moment_in (codes "from") d) 0;
  until = unwrap_or (moment_in (codes "until") d) 0;
  namespaces = unwrap_or (claims_in d) no_fields;
}

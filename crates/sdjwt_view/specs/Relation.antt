-- What it is for a text to be a credential, in the standard's terms: what a signed message says together with
-- disclosures (RFC 9901, sections 4, 7.1 and 7.3).
use Rattle.std.specs.Prelude.{◌≡◌, ◌≤◌, true, false, List, length, map, Some, None}
use Rattle.std.specs.List.{list_any, list_all}
use Rattle.base_forms.specs.declared.hash.HashName.{HashName}
use Rattle.base_forms.specs.Texts.{Utf8, differ}
use Rattle.jws_envelope.specs.Compact.{dot_parts}
use Rattle.jws_envelope.specs.Envelope.{Envelope, envelope_of, jws_rule}
use Rattle.claim_tree.specs.Parts.{Named}
use Rattle.sdjwt_digests.specs.Disclosures.{Disclosed, all_disclosed}
use Rattle.sdjwt_digests.specs.DigestSites.{digest_at, all_sites}
use Rattle.sdjwt_digests.specs.ReservedNames.{is_sound, has_reserved_name}
use Rattle.sdjwt_disclosures.specs.Spelling.{SpellsPayload, UsesEach}
use Rattle.sdjwt_view.specs.Reading.{Content, pieces, parts_of, has_sd_type, named_hash, most_disclosures}
use Rattle.sdjwt_view.specs.Reading.{content_with}
use Rattle.sdjwt_facts.specs.Facts.{facts_rule}

-- A signed message and the texts of disclosures: the payload spells the record of these members and uses each
-- disclosure at exactly one site. No digest stands at two sites (section 7.1, step 4). The rules on types,
-- forms and limits hold, and those on what the message says of itself.
pub record Says (e : Envelope) (texts : List Utf8) (c : Content) : Type 0 where
  pub is_typed : has_sd_type e.header ≡ true
  pub hash : HashName
  pub names_hash : named_hash e.payload ≡ Some hash
  pub few : length texts ≤ most_disclosures
  pub disclosures : List Disclosed
  pub are_disclosed : all_disclosed hash texts ≡ Some disclosures
  pub none_reserved : list_any has_reserved_name disclosures ≡ false
  pub sound : is_sound e.payload ≡ true
  pub sound_values : list_all (λ l. is_sound l.value) disclosures ≡ true
  pub apart : differ (map digest_at (all_sites e.payload disclosures)) ≡ true
  pub members : List Named
  pub used : List Utf8
  pub spells : SpellsPayload disclosures e.payload members used
  pub uses_each : UsesEach disclosures used
  pub facts : facts_rule e.payload ≡ None
  pub says : c ≡ content_with e hash members

-- The text is an issuer's JWS and disclosures, each followed by `~`, and this is what they say.
abbrev pub Reads : Utf8 → Content → Type 0
Reads text c = (jws : Utf8) × (texts : List Utf8) × (parts_of (pieces text) ≡ Some (jws, texts))
    × (jws_rule jws ≡ None) × Says (envelope_of (dot_parts jws)) texts c

-- What is written where parts of a value are hidden spells what was meant (RFC 9901, sections 4.2 and 7.1).
use Rattle.std.specs.Prelude.{◌≡◌, ◌≤◌, Bool, true, false, ◌&&◌, ◌||◌, not, List, map, is_none}
use Rattle.std.specs.List.{list_any, list_all}
use Rattle.std.specs.Str.{bytes_eq}
use Rattle.serde_json.specs.Data.{object, Members as Fields, no_members as no_fields, member as field, depth}
use Rattle.claim_tree.specs.Tree.{is_claim}
use Rattle.claim_tree.specs.Plain.{plain}
use Rattle.claim_names.specs.declared.address.Step.TheVariants.{Name}
use Rattle.base_forms.specs.Texts.{Utf8, is_among, differ}
use Rattle.sdjwt_digests.specs.Disclosures.{Disclosed}
use Rattle.sdjwt_digests.specs.DigestSites.{digest_at, all_sites}
use Rattle.sdjwt_digests.specs.ReservedNames.{is_sound, has_reserved_name}
use Rattle.sdjwt_disclosures.specs.MemberNames.{plain_only}
use Rattle.sdjwt_disclosures.specs.DisclosedTree.{sd_alg}
use Rattle.sdjwt_disclosures.specs.Spelling.{SpellsPayload, UsesEach}
use Rattle.sdjwt_hiding.specs.Hiding.{Marks, at, Digests, hidden, disclosures, has_free}
use Rattle.sdjwt_hiding.specs.Meant.{meant_members}

-- No member is `_sd_alg`, and none that is hidden has a name of those that stand in plain or not at all.
abbrev pub keeps_plain_only : Marks → Fields → Bool
keeps_plain_only m no_fields = true
keeps_plain_only m (field k d ms) =
    (not (bytes_eq sd_alg k) && (is_none (at (Name k) m) || not (is_among k plain_only)))
    && keeps_plain_only m ms

abbrev pub digests : List Disclosed → List Utf8
digests ls = map (λ l. l.digest) ls

-- What may be hidden: an object as JSON is read, with at most 64 lists and objects inside one another and no
-- reserved name, whose disclosures' digests differ.
pub record MayHide (x : Digests) (m : Marks) (ms : Fields) : Type 0 where
  pub is_read : is_claim (plain (object ms)) ≡ true
  pub shallow : depth (object ms) ≤ 64
  pub free : has_free ms ≡ true
  pub keeps : keeps_plain_only m ms ≡ true
  pub differing : differ (digests (disclosures x m (object ms))) ≡ true

-- The payload spells the members that are meant and uses each disclosure at exactly one site. No digest
-- stands at two sites, and reserved names stand where they may.
pub record SpellsMeant (x : Digests) (m : Marks) (ms : Fields) : Type 0 where
  pub used : List Utf8
  pub spells : SpellsPayload (disclosures x m (object ms)) (hidden x m (object ms)) (meant_members m ms) used
  pub uses_each : UsesEach (disclosures x m (object ms)) used
  pub apart : differ (map digest_at (all_sites (hidden x m (object ms)) (disclosures x m (object ms)))) ≡ true
  pub none_reserved : list_any has_reserved_name (disclosures x m (object ms)) ≡ false
  pub sound : is_sound (hidden x m (object ms)) ≡ true
  pub sound_values : list_all (λ l. is_sound l.value) (disclosures x m (object ms)) ≡ true

-- Whatever digests are taken, what is written spells what was meant.
abbrev pub HiddenIsMeant : Type 0
HiddenIsMeant = (x : Digests) (m : Marks) (ms : Fields) → MayHide x m ms → SpellsMeant x m ms

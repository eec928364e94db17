-- Where the reserved names `_sd` and `...` may stand, and with what value (RFC 9901, sections 4.2.4 and 7.1).
use Rattle.std.specs.Prelude.{ℕ, Bool, true, false, ◌||◌, ◌&&◌, not, List, [], ◌∷◌, Option, Some, None}
use Rattle.std.specs.Prelude.{if◌then◌else◌}
use Rattle.std.specs.List.{list_any, list_all}
use Rattle.std.specs.Str.{bytes_eq}
use Rattle.serde_json.specs.Find.{as_array}
use Rattle.serde_json.specs.Data.{Data, array, object, Items, no_items, item, Members, no_members, member}
use Rattle.base_forms.specs.Rules.{rule, first}
use Rattle.base_forms.specs.Texts.{Utf8}
use Rattle.sdjwt_digests.specs.Disclosures.{Disclosed}
use Rattle.sdjwt_digests.specs.DigestSites.{sd, dots, are_texts, is_placeholder}

abbrev pub is_list_of_texts : Data → Bool
is_list_of_texts d = elim (as_array d) [ None ↦ false | Some ds ↦ are_texts ds ]

-- Each `_sd` is a list of strings, and each `...` is the one member, a string, of a list's element.
abbrev mutual
  pub is_sound : Data → Bool
  is_sound (array ds) = are_items_sound ds
  is_sound (object ms) = are_members_sound ms
  is_sound _ = true

  pub are_items_sound : Items → Bool
  are_items_sound no_items = true
  are_items_sound (item d ds) = (is_placeholder d || is_sound d) && are_items_sound ds

  pub are_members_sound : Members → Bool
  are_members_sound no_members = true
  are_members_sound (member k d ms) =
      (if bytes_eq k sd then is_list_of_texts d else not (bytes_eq k dots) && is_sound d)
      && are_members_sound ms

abbrev pub is_reserved_name : Utf8 → Bool
is_reserved_name k = bytes_eq k sd || bytes_eq k dots

-- the disclosure is that of a member with a reserved name
abbrev pub has_reserved_name : Disclosed → Bool
has_reserved_name l = elim l.name [ None ↦ false | Some k ↦ is_reserved_name k ]

-- rules 7 and 8: a disclosure has a reserved name; a reserved name stands where it may not, or with another
-- value
unfoldable pub reserved_names_rule : Data → List Disclosed → Option ℕ
reserved_names_rule payload ls = first
    (rule 7 (list_any has_reserved_name ls)
    ∷ rule 8 (not (is_sound payload && list_all (λ l. is_sound l.value) ls))
    ∷ [])

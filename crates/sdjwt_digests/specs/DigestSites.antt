-- Where the digests of disclosures stand in JSON values (RFC 9901, sections 4.2.4 and 7.1).
use Rattle.std.specs.Prelude.{◌==◌, Bool, true, ◌&&◌, List, [], ◌∷◌, ◌++◌, map, codes, Option, Some, None}
use Rattle.std.specs.Prelude.{option_and_then, if◌then◌else◌}
use Rattle.std.specs.Option.{is_some}
use Rattle.std.specs.Str.{bytes_eq}
use Rattle.serde_json.specs.Find.{as_str, as_array, as_object, get, get_member}
use Rattle.serde_json.specs.Data.{Data, array, object, Items, no_items, item, Members, no_members, member}
use Rattle.serde_json.specs.Events.{members_len}
use Rattle.base_forms.specs.Texts.{Utf8}
use Rattle.sdjwt_digests.specs.Disclosures.{Disclosed}

abbrev pub sd : Utf8
sd = codes "_sd"

abbrev pub dots : Utf8
dots = codes "..."

-- ---- digests

-- the strings among some items
abbrev pub texts_in : Items → List Utf8
texts_in no_items = []
texts_in (item d ds) = elim (as_str d) [ None ↦ texts_in ds | Some x ↦ x ∷ texts_in ds ]

abbrev pub are_texts : Items → Bool
are_texts no_items = true
are_texts (item d ds) = is_some (as_str d) && are_texts ds

-- the digest of a placeholder `{"...": digest}`
abbrev pub placeholder : Data → Option Utf8
placeholder d =
    option_and_then (λ ms. if members_len ms == 1 then option_and_then as_str (get dots d) else None)
    (as_object d)

abbrev pub is_placeholder : Data → Bool
is_placeholder d = is_some (placeholder d)

-- the digests in an `_sd`
abbrev pub listed : Data → List Utf8
listed d = elim (as_array d) [ None ↦ [] | Some ds ↦ texts_in ds ]

-- the digests in an object's own `_sd`
abbrev pub own_digests : Members → List Utf8
own_digests ms = elim (option_and_then as_array (get_member sd ms)) [ None ↦ [] | Some ds ↦ texts_in ds ]

-- ---- all sites of digests within a value

-- A digest stands in the `_sd` of an object, or in a placeholder among a list's elements.
pub data Site : Type 0 where
  in_object : Utf8 → Site
  in_list : Utf8 → Site

abbrev pub digest_at : Site → Utf8
digest_at (in_object x) = x
digest_at (in_list x) = x

abbrev mutual
  pub sites_in : Data → List Site
  sites_in (array ds) = sites_in_items ds
  sites_in (object ms) = sites_in_members ms
  sites_in _ = []

  pub sites_in_items : Items → List Site
  sites_in_items no_items = []
  sites_in_items (item d ds) =
      elim (placeholder d) [ None ↦ sites_in d | Some x ↦ in_list x ∷ [] ] ++ sites_in_items ds

  pub sites_in_members : Members → List Site
  sites_in_members no_members = []
  sites_in_members (member k d ms) =
      (if bytes_eq k sd then map in_object (listed d) else sites_in d) ++ sites_in_members ms

abbrev pub digests_in : Data → List Utf8
digests_in d = map digest_at (sites_in d)

-- ---- all sites of a credential

abbrev pub values_sites : List Disclosed → List Site
values_sites [] = []
values_sites (d ∷ ds) = sites_in d.value ++ values_sites ds

-- the sites in the payload and in the disclosures' values
abbrev pub all_sites : Data → List Disclosed → List Site
all_sites payload ds = sites_in payload ++ values_sites ds

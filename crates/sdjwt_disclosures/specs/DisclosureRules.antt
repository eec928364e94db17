-- The rules on the disclosures of an SD-JWT and the sites of their digests (RFC 9901, section 7.1, steps 2 to
-- 5).
use Rattle.std.specs.Prelude.{ℕ, Bool, true, false, not, List, [], ◌∷◌, map, Option, Some, None}
use Rattle.std.specs.Prelude.{is_none}
use Rattle.std.specs.List.{list_any}
use Rattle.serde_json.specs.Data.{Data}
use Rattle.base_forms.specs.Rules.{rule, first}
use Rattle.base_forms.specs.Texts.{is_among, differ}
use Rattle.sdjwt_digests.specs.Disclosures.{Disclosed, found}
use Rattle.sdjwt_digests.specs.DigestSites.{Site, in_object, in_list, digest_at, all_sites}
pub use Rattle.sdjwt_digests.specs.ReservedNames.{reserved_names_rule}
use Rattle.sdjwt_disclosures.specs.Reachable.{have_own_sites}
use Rattle.sdjwt_disclosures.specs.MemberNames.{any_clash, top_names, plain_only}
use Rattle.sdjwt_disclosures.specs.DisclosedTree.{spelled_payload}

-- rule 9: two sites hold equal digests
unfoldable pub double_rule : Data → List Disclosed → Option ℕ
double_rule payload ls = rule 9 (not (differ (map digest_at (all_sites payload ls))))

-- rule 10: a disclosure has no site of its own
unfoldable pub reach_rule : Data → List Disclosed → Option ℕ
reach_rule payload ls = rule 10 (not (have_own_sites payload ls))

-- A disclosure without a name has its digest in an object, or one with a name has it in a list.
abbrev pub is_mismatch : List Disclosed → Site → Bool
is_mismatch ds (in_object x) = elim (found x ds) [
  | None ↦ false
  | Some d ↦ elim d.name [ None ↦ true | Some k ↦ false ]
]
is_mismatch ds (in_list x) = elim (found x ds) [
  | None ↦ false
  | Some d ↦ elim d.name [ None ↦ false | Some k ↦ true ]
]

-- rules 11 to 13: a disclosure is of the other kind than its site asks for; an object gets a name twice; the
-- top object gets a name that no disclosure may bring
unfoldable pub names_rule : Data → List Disclosed → Option ℕ
names_rule payload ls = first
    (rule 11 (list_any (is_mismatch ls) (all_sites payload ls))
    ∷ rule 12 (any_clash payload ls)
    ∷ rule 13 (list_any (λ k. is_among k plain_only) (top_names ls payload))
    ∷ [])

-- rule 14: too many lists and records inside one another
unfoldable pub depth_rule : Data → List Disclosed → Option ℕ
depth_rule payload ls = rule 14 (is_none (spelled_payload ls payload))

-- rules 10 to 14
abbrev pub own_site_rule : Data → List Disclosed → Option ℕ
own_site_rule payload ls = first (reach_rule payload ls ∷ names_rule payload ls ∷ depth_rule payload ls ∷ [])

-- rules 7 to 14
unfoldable pub processing_rule : Data → List Disclosed → Option ℕ
processing_rule payload ls =
    first (reserved_names_rule payload ls ∷ double_rule payload ls ∷ own_site_rule payload ls ∷ [])

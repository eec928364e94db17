-- The claim tree that a JSON value spells, in which each disclosure stands where its digest stood (RFC 9901,
-- section 7.1).
use Rattle.std.specs.Prelude.{ℕ, zero, suc, Bool, true, false, ◌||◌, List, [], ◌∷◌, ◌++◌, codes, Option, Some}
use Rattle.std.specs.Prelude.{None, option_map, option_and_then, if◌then◌else◌}
use Rattle.serde_json.specs.Data.{Data, null, boolean, number, string, array, object, Items, no_items, item}
use Rattle.serde_json.specs.Data.{Members as Fields, no_members as no_fields, member as field}
use Rattle.claim_tree.specs.Tree.{Tree, Text, Truth, Null, ListOf, RecordOf}
use Rattle.serde_json.specs.Find.{as_object}
use Rattle.claim_tree.specs.Plain.{plain_number}
use Rattle.claim_tree.specs.Parts.{Part, Named, elements_of, members_of}
use Rattle.sdjwt_disclosures.specs.PutMember.{put_member}
use Rattle.base_forms.specs.Texts.{Utf8, is_among}
use Rattle.sdjwt_digests.specs.Disclosures.{Disclosed, found}
use Rattle.sdjwt_digests.specs.DigestSites.{sd, placeholder, is_placeholder, own_digests}

-- ---- what a list spells

abbrev pub has_placeholder : Items → Bool
has_placeholder no_items = false
has_placeholder (item d ds) = is_placeholder d || has_placeholder ds

-- the element that a placeholder's disclosure gives, held: none where there is no disclosure, or one with a
-- name
abbrev pub disclosed_element : (Data → Option Tree) → Option Disclosed → Option (List Part)
disclosed_element inner None = Some []
disclosed_element inner (Some l) =
    elim l.name [ None ↦ option_map (λ t. (true, t) ∷ []) (inner l.value) | Some k ↦ Some [] ]

-- A plain element is not held. A placeholder gives its disclosure's element.
abbrev pub spelled_element : (Data → Option Tree) → List Disclosed → Data → Option (List Part)
spelled_element inner ls d = elim (placeholder d) [
  | None ↦ option_map (λ t. (false, t) ∷ []) (inner d)
  | Some x ↦ disclosed_element inner (found x ls)
]

abbrev pub spelled_elements : (Data → Option Tree) → List Disclosed → Items → Option (List Part)
spelled_elements inner ls no_items = Some []
spelled_elements inner ls (item d ds) =
    option_and_then (λ e. option_map (λ es. e ++ es) (spelled_elements inner ls ds))
    (spelled_element inner ls d)

abbrev pub spelled_list : (Data → Option Tree) → List Disclosed → Items → Option Tree
spelled_list inner ls ds =
    option_map (λ es. ListOf (has_placeholder ds) (elements_of es)) (spelled_elements inner ls ds)

-- ---- what an object spells

abbrev pub sd_alg : Utf8
sd_alg = codes "_sd_alg"

-- the names of the members that are no claims: `_sd`, and in the payload itself `_sd_alg`
abbrev pub left_out : Bool → List Utf8
left_out is_payload = if is_payload then sd ∷ sd_alg ∷ [] else sd ∷ []

-- the plain members, none of them held
abbrev pub plain_members : Bool → (Data → Option Tree) → Fields → Option (List Named)
plain_members is_payload inner no_fields = Some []
plain_members is_payload inner (field k d ms) =
    if is_among k (left_out is_payload) then plain_members is_payload inner ms else option_and_then
    (λ t. option_map (λ ns. (k, false, t) ∷ ns) (plain_members is_payload inner ms)) (inner d)

-- the members with that of a disclosure, held: no more than before where there is no disclosure, or one
-- without a name
abbrev pub with_disclosure : (Data → Option Tree) → Option Disclosed → List Named → Option (List Named)
with_disclosure inner None ms = Some ms
with_disclosure inner (Some l) ms =
    elim l.name [ None ↦ Some ms | Some k ↦ option_map (λ t. put_member (k, true, t) ms) (inner l.value) ]

abbrev pub with_disclosures : (Data → Option Tree) → List Disclosed → List Utf8 → List Named
    → Option (List Named)
with_disclosures inner ls [] ms = Some ms
with_disclosures inner ls (x ∷ xs) ms =
    option_and_then (with_disclosures inner ls xs) (with_disclosure inner (found x ls) ms)

abbrev pub spelled_members : Bool → (Data → Option Tree) → List Disclosed → Fields → Option (List Named)
spelled_members is_payload inner ls ms =
    option_and_then (with_disclosures inner ls (own_digests ms)) (plain_members is_payload inner ms)

abbrev pub spelled_record : Bool → (Data → Option Tree) → List Disclosed → Fields → Option Tree
spelled_record is_payload inner ls ms =
    option_map (λ ns. RecordOf (members_of ns)) (spelled_members is_payload inner ls ms)

-- ---- the whole

-- the claim that a value spells, or `None` where it has more than n lists and records inside one another
abbrev pub spelled : ℕ → List Disclosed → Data → Option Tree
spelled n ls null = Some Null
spelled n ls (boolean b) = Some (Truth b)
spelled n ls (number x) = Some (plain_number x)
spelled n ls (string s) = Some (Text s)
spelled zero ls (array ds) = None
spelled zero ls (object ms) = None
spelled (suc n) ls (array ds) = spelled_list (spelled n ls) ls ds
spelled (suc n) ls (object ms) = spelled_record false (spelled n ls) ls ms

-- the members that the payload of a credential spells, or none where it has more than 64 lists and records
-- inside one another, itself among them
unfoldable pub spelled_payload : List Disclosed → Data → Option (List Named)
spelled_payload ls d = option_and_then (λ ms. spelled_members true (spelled 63 ls) ls ms) (as_object d)

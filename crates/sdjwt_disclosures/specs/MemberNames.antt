-- The names of the members that disclosures bring to objects (RFC 9901, section 7.1; SD-JWT VC, section
-- 3.2.2).
use Rattle.std.specs.Prelude.{Bool, false, ◌||◌, ◌&&◌, not, List, [], ◌∷◌, codes, Some, None, option_and_then}
use Rattle.std.specs.List.{list_any}
use Rattle.std.specs.Option.{is_some}
use Rattle.std.specs.Str.{bytes_eq}
use Rattle.serde_json.specs.Find.{as_object, get_member}
use Rattle.serde_json.specs.Data.{Data, array, object, Items, no_items, item, Members, no_members, member}
use Rattle.base_forms.specs.Texts.{Utf8, differ}
use Rattle.sdjwt_digests.specs.Disclosures.{Disclosed, found}
use Rattle.sdjwt_digests.specs.DigestSites.{sd, is_placeholder, own_digests}
use Rattle.sdjwt_disclosures.specs.DisclosedTree.{sd_alg}

-- the names of the disclosures that have these digests
abbrev pub disclosed_names : List Disclosed → List Utf8 → List Utf8
disclosed_names ds [] = []
disclosed_names ds (x ∷ xs) =
    elim (option_and_then (λ d. d.name) (found x ds)) [
      | None ↦ disclosed_names ds xs
      | Some k ↦ k ∷ disclosed_names ds xs
    ]

-- ---- a name that comes twice

-- two of the names are equal, or one is the name of a plain member
abbrev pub gets_clash : List Utf8 → Members → Bool
gets_clash ks ms = not (differ ks) || list_any (λ k. is_some (get_member k ms)) ks

-- some object within the value, other than a placeholder, gets a name twice
abbrev mutual
  pub has_clash : List Disclosed → Data → Bool
  has_clash ls (array ds) = items_have_clash ls ds
  has_clash ls (object ms) = gets_clash (disclosed_names ls (own_digests ms)) ms || members_have_clash ls ms
  has_clash ls _ = false

  pub items_have_clash : List Disclosed → Items → Bool
  items_have_clash ls no_items = false
  items_have_clash ls (item d ds) = (not (is_placeholder d) && has_clash ls d) || items_have_clash ls ds

  pub members_have_clash : List Disclosed → Members → Bool
  members_have_clash ls no_members = false
  members_have_clash ls (member k d ms) = (not (bytes_eq k sd) && has_clash ls d) || members_have_clash ls ms

-- some object of the payload or of a disclosure's value gets a name twice
abbrev pub any_clash : Data → List Disclosed → Bool
any_clash payload ls = has_clash ls payload || list_any (λ l. has_clash ls l.value) ls

-- ---- names that stand in the payload as it is signed, or not at all

-- the names that come to the top object by disclosures
abbrev pub top_names : List Disclosed → Data → List Utf8
top_names ls d = elim (as_object d) [ None ↦ [] | Some ms ↦ disclosed_names ls (own_digests ms) ]

-- names that no disclosure may bring to the top object
abbrev pub plain_only : List Utf8
plain_only =
    codes "iss" ∷ codes "nbf" ∷ codes "exp" ∷ codes "cnf" ∷ codes "vct" ∷ codes "status" ∷ sd_alg ∷ []

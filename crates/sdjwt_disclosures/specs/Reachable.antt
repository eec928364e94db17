-- The digests that are reached from a payload, directly and through disclosures (RFC 9901, section 7.1).
use Rattle.std.specs.Prelude.{ℕ, zero, suc, Bool, ◌&&◌, List, [], ◌∷◌, ◌++◌, length, map, Some, None}
use Rattle.std.specs.List.{list_all}
use Rattle.serde_json.specs.Data.{Data}
use Rattle.base_forms.specs.Texts.{Utf8, is_among, differ}
use Rattle.sdjwt_digests.specs.Disclosures.{Disclosed, found}
use Rattle.sdjwt_digests.specs.DigestSites.{digests_in}

-- what `inner` gives for the values of the disclosures that have these digests
abbrev pub reached_by : (Data → List Utf8) → List Disclosed → List Utf8 → List Utf8
reached_by inner ls [] = []
reached_by inner ls (x ∷ xs) =
    elim (found x ls) [ None ↦ [] | Some l ↦ inner l.value ] ++ reached_by inner ls xs

-- the digests in a value and, through at most n - 1 disclosures inside one another, in their values; none for
-- n = 0
abbrev pub reached : ℕ → List Disclosed → Data → List Utf8
reached zero ls d = []
reached (suc n) ls d = digests_in d ++ reached_by (reached n ls) ls (digests_in d)

-- the digest of each disclosure is reached from the payload
abbrev pub are_reached : Data → List Disclosed → Bool
are_reached payload ls = list_all (λ l. is_among l.digest (reached (suc (length ls)) ls payload)) ls

-- each disclosure has a digest of its own, which is reached
abbrev pub have_own_sites : Data → List Disclosed → Bool
have_own_sites payload ls = differ (map (λ l. l.digest) ls) && are_reached payload ls

-- Which disclosures a walk over sites marks.
use Rattle.std.specs.Prelude.{◌||◌, ℕ, zero, suc, Bool, List, [], ◌∷◌, ◌++◌, length, Option, Some, None}
use Rattle.std.specs.List.{list_all}
use Rattle.serde_json.specs.Data.{Data}
use Rattle.base_forms.specs.Texts.{Utf8, is_among}
use Rattle.sdjwt_digests.specs.Disclosures.{Disclosed, found}
use Rattle.sdjwt_digests.specs.DigestSites.{Site, digest_at, sites_in}

-- what `inner` gives for the value of a disclosure, where there is one
abbrev pub walked_into : (Data → List Utf8) → Option Disclosed → List Utf8
walked_into inner None = []
walked_into inner (Some l) = inner l.value

-- the digest at each site, and after it what `inner` gives for the value of the disclosure that has it
abbrev pub walked_by : (Data → List Utf8) → List Disclosed → List Site → List Utf8
walked_by inner ls [] = []
walked_by inner ls (p ∷ ps) =
    digest_at p ∷ (walked_into inner (found (digest_at p) ls) ++ walked_by inner ls ps)

-- the digests at these sites and, through at most n - 1 disclosures inside one another, in their values; none
-- for n = 0
abbrev pub walked : ℕ → List Disclosed → List Site → List Utf8
walked zero ls ps = []
walked (suc n) ls ps = walked_by (λ d. walked n ls (sites_in d)) ls ps

-- the digest at a site and, through at most n disclosures inside one another, those in the value of the
-- disclosure that has it
abbrev pub walked_from : ℕ → List Disclosed → Site → List Utf8
walked_from n ls p =
    digest_at p ∷ walked_into (λ d. walked n ls (sites_in d)) (found (digest_at p) ls)

-- the marks of disclosures, and those of the disclosures that have one of these digests
abbrev pub marked : List Utf8 → List Disclosed → List Bool → List Bool
marked xs (l ∷ ls) (b ∷ bs) = (b || is_among l.digest xs) ∷ marked xs ls bs
marked xs _ bs = bs

-- the digest of each disclosure is walked to from these sites
abbrev pub all_walked : List Site → List Disclosed → Bool
all_walked ps ls = list_all (λ l. is_among l.digest (walked (suc (length ls)) ls ps)) ls

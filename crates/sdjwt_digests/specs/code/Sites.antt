-- The sites of a credential in memory.
use Rattle.std.specs.Prelude.{◌≡◌, ◌++◌, List, map}
use Rattle.std.specs.List.{flat_map}
use Rattle.serde_json.specs.Data.{Data}
use Rattle.sdjwt_digests.specs.Disclosures.{Disclosed}
use Rattle.sdjwt_digests.specs.DigestSites.{Site as TheirSite, sites_in}
use Rattle.sdjwt_digests.specs.code.Disclosures.{sites_said}
use Rattle.sdjwt_digests.specs.declared.digest_sites.Sites.{Sites}

-- those in this payload, and those in the value of each of these disclosures
pub record AreSitesOf (sites : Sites) (payload : Data) (ls : List Disclosed) : Type 0 where
  pub in_payload : sites_said sites.payload ≡ sites_in payload
  pub in_values : map sites_said sites.values.items ≡ map (λ l. sites_in l.value) ls

-- all of them
abbrev pub all_in : Sites → List TheirSite
all_in sites = sites_said sites.payload ++ flat_map sites_said sites.values.items

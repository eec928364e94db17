-- What the disclosures and the sites in memory say.
use Rattle.std.specs.Prelude.{List, Vec, map}
use Rattle.std.specs.declared.alloc.Global.{Global}
use Rattle.sdjwt_digests.specs.Disclosures.{Disclosed}
use Rattle.sdjwt_digests.specs.DigestSites.{Site as TheirSite, in_object, in_list}
use Rattle.sdjwt_digests.specs.declared.digest_sites.Site.{Site}
use Rattle.sdjwt_digests.specs.declared.digest_sites.Site.TheVariants.{InObject, InList}
use Rattle.sdjwt_digests.specs.Disclosure.{said}
use Rattle.sdjwt_digests.specs.declared.disclosures.Disclosures.{Disclosures}

abbrev pub all_said : Disclosures → List Disclosed
all_said ds = map said ds.list.now

abbrev pub site_of : Site → TheirSite
site_of (InObject s) = in_object s.now
site_of (InList s) = in_list s.now

abbrev pub sites_said : Vec Site Global → List TheirSite
sites_said v = map site_of v.items

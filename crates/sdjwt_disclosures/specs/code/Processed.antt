-- What the processing comes to where the rules 7 to 9 hold.
use Rattle.std.specs.Prelude.{◌≡◌, List, map, Some, None}
use Rattle.serde_json.specs.Data.{Data}
use Rattle.sdjwt_disclosures.specs.declared.processing.Processed.{Processed}
use Rattle.sdjwt_disclosures.specs.declared.processing.Processed.TheVariants.{Tree, Broken}
use Rattle.sdjwt_digests.specs.Disclosures.{Disclosed}
use Rattle.owned_tree.specs.Owned.{named_of}
use Rattle.sdjwt_disclosures.specs.DisclosureRules.{own_site_rule}
use Rattle.sdjwt_disclosures.specs.DisclosedTree.{spelled_payload}

-- none of the rules 10 to 14 is broken and these members are spelled, or this is the first
-- that is broken
abbrev pub IsOwnProcessed : Data → List Disclosed → Processed → Type 0
IsOwnProcessed payload ls (Tree members) = (own_site_rule payload ls ≡ None)
    × (spelled_payload ls payload ≡ Some (map named_of members.items))
IsOwnProcessed payload ls (Broken rule) = own_site_rule payload ls ≡ Some rule

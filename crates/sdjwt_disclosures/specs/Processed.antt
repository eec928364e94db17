-- What the processing of disclosures comes to (RFC 9901, section 7.1).
use Rattle.std.specs.Prelude.{◌≡◌, List, map, Some, None}
use Rattle.serde_json.specs.Data.{Data}
use Rattle.sdjwt_disclosures.specs.declared.processing.Processed.{Processed}
use Rattle.sdjwt_disclosures.specs.declared.processing.Processed.TheVariants.{Tree, Broken}
use Rattle.sdjwt_digests.specs.Disclosures.{Disclosed}
use Rattle.owned_tree.specs.Owned.{named_of}
use Rattle.sdjwt_disclosures.specs.DisclosureRules.{processing_rule}
use Rattle.sdjwt_disclosures.specs.DisclosedTree.{spelled_payload}

-- no rule is broken and these members are spelled, or this rule is the first that is broken
abbrev pub IsProcessed : Data → List Disclosed → Processed → Type 0
IsProcessed payload ls (Tree members) = (processing_rule payload ls ≡ None)
    × (spelled_payload ls payload ≡ Some (map named_of members.items))
IsProcessed payload ls (Broken rule) = processing_rule payload ls ≡ Some rule

-- The elements that an item of a JSON list becomes, and none where it has too many levels.
use Rattle.std.specs.Prelude.{List, [], ◌∷◌, Option, Some, None}
use Rattle.claim_tree.specs.Parts.{Part}
use Rattle.owned_tree.specs.Owned.{part_of}
use Rattle.sdjwt_disclosures.specs.declared.spelled_item.SpelledItem.{SpelledItem}
use Rattle.sdjwt_disclosures.specs.declared.spelled_item.SpelledItem.TheVariants.{Found, Nothing, TooDeep}

abbrev pub parts_of : SpelledItem → Option (List Part)
parts_of (Found e) = Some (part_of e ∷ [])
parts_of Nothing = Some []
parts_of TooDeep = None

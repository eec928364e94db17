-- That an element of a JSON list is a placeholder, by the list of them.
use Rattle.std.proofs.Common.{◌≡◌, ◌||◌, List, [], ◌∷◌, refl, ap}
use Rattle.std.specs.List.{list_any}
use Rattle.serde_json.specs.Data.{Data}
use Rattle.serde_json.specs.View.{items_of}
use Rattle.sdjwt_digests.specs.DigestSites.{is_placeholder}
use Rattle.sdjwt_disclosures.specs.DisclosedTree.{has_placeholder}

pub placeholders_listed : (ds : List Data) → has_placeholder (items_of ds) ≡ list_any is_placeholder ds
placeholders_listed [] = refl
placeholders_listed (d ∷ ds) = ap (λ b. is_placeholder d || b) (placeholders_listed ds)

-- That all elements of a JSON list are strings, by the list of them.
use Rattle.std.proofs.Common.{◌≡◌, ◌&&◌, List, [], ◌∷◌, is_some, refl, ap}
use Rattle.serde_json.specs.Data.{Data}
use Rattle.serde_json.specs.Find.{as_str}
use Rattle.serde_json.specs.View.{items_of}
use Rattle.json_forms.specs.Look as look
use Rattle.sdjwt_digests.specs.DigestSites.{are_texts}

pub texts_listed : (ds : List Data) → are_texts (items_of ds) ≡ look.are_texts ds
texts_listed [] = refl
texts_listed (d ∷ ds) = ap (λ b. is_some (as_str d) && b) (texts_listed ds)

-- What a JSON list says as a disclosure is what its parts say.
use Rattle.std.proofs.Common.{◌≡◌, map, Option, Some, ap, ◌∙◌}
use Rattle.std.specs.declared.alloc.Global.{Global}
use Rattle.std.specs.Prelude.{Vec}
use Rattle.serde_json.specs.Data.{Data}
use Rattle.serde_json.specs.View.{view}
use Rattle.serde_json.specs.declared.value.Value.{Value}
use Rattle.serde_json.specs.declared.value.Value.TheVariants.{Array}
use Rattle.serde_json.proofs.Views.{view-Array}
use Rattle.base_forms.specs.Texts.{Utf8}
use Rattle.json_forms.specs.Look.{elements_of}
use Rattle.json_forms.proofs.Lists.{listed-items_of}
use Rattle.sdjwt_digests.specs.Disclosures.{salted}

pub salted_parts : (v : Value) (parts : Vec Value Global) (p : Option Utf8 × Data) → v ≡ Array parts
    → salted (map view parts.items) ≡ Some p → salted (elements_of (view v)) ≡ Some p
salted_parts v parts p is of_parts =
    ap (λ w. salted (elements_of (view w))) is ∙ ap (λ d. salted (elements_of d)) (view-Array parts)
    ∙ ap salted (listed-items_of (map view parts.items)) ∙ of_parts

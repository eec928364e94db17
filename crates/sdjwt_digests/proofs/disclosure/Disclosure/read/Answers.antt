use Rattle.std.proofs.Common.{◌≡◌, Option, Some, option_map, string_bytes, sym, ap, ◌∙◌}
use Rattle.serde_json.specs.View.{view}
use Rattle.base_forms.specs.Texts.{Utf8}
use Rattle.serde_json.specs.Data.{Data}
use Rattle.sdjwt_digests.specs.Disclosures.{json_in}
use Rattle.sdjwt_digests.proofs.DisclosureParts.{salted_parts}
use Rattle.sdjwt_digests.proofs.ValueClaims.{json_in-claim, salted-claim}
use Rattle.sdjwt_digests.proofs.disclosure.Disclosure.read.Goals as goal

pub invariant_of-result : goal.invariant_of-result
invariant_of-result c =
    let p : Option Utf8 × Data =
    (option_map string_bytes c.in-Some-salted.name, view c.in-Some-salted.value) in
    let json : json_in c.args.text.now ≡ Some (view c.in-Some.json) =
    sym c.in_ok-json.ensures ∙ ap (option_map view) c.in-Some.is in
    record {
      sound = salted-claim (view c.in-Some.json) p (json_in-claim c.args.text.now (view c.in-Some.json) json)
          (salted_parts c.in-Some.json c.in-Array.parts p c.in-Array.is (sym c.in-Some-salted.ensures));
    }

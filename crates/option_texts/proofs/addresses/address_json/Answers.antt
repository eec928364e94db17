use Rattle.std.proofs.Common.{ap, ◌∙◌}
use Rattle.serde_json.specs.Written.{compact_text, has_float}
use Rattle.option_texts.specs.Addresses.{address_data}
use Rattle.option_texts.proofs.Integers.{no_float}
use Rattle.option_texts.proofs.addresses.address_json.Goals as goal

pub returns : goal.returns
returns c =
    let list = c.in_ok-list.ensures ∙ ap (λ steps. address_data steps) c.steps.ensures in
    c.in_ok-to_string.ensures.text (ap has_float list ∙ no_float c.args.address.now) ∙ ap compact_text list

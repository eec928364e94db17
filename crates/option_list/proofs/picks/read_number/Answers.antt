use Rattle.std.proofs.Common.{◌∙◌}
use Rattle.std.proofs.lemmas.Slice.Eq.{bytes_eq-Decides}
use Rattle.option_list.proofs.Parts.{number_none, number_other}
use Rattle.option_list.proofs.picks.read_number.Goals as goal

pub returns-in_default : goal.returns-in_default
returns-in_default c =
    number_none c.args.text.now c.parse.result c.in_default.field-0 c.parse.ensures.value.0 c.in_default.is

pub returns-else-eq : goal.returns-else-eq
returns-else-eq c =
    number_other c.args.text.now c.parse.result c.in-Ok.number c.parse.ensures.value.0 c.in-Ok.is
    (λ e.
    let same = (bytes_eq-Decides c.format.result.now c.args.text.now).1 (c.format.ensures.text ∙ e) in
    let test = c.eq.ensures in
    let other = c.if-eq.false in
    cc (same, test, other))

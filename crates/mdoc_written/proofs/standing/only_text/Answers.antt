use Rattle.std.proofs.Common.{rules, ◌≡◌, ℕ, length, List, sym, ◌∙◌}
use Rattle.mdoc_written.proofs.Objects.{not_one, one_text, view-String}
use Rattle.mdoc_written.proofs.standing.only_text.Goals as goal

pub returns-then-len-ne1 : goal.returns-then-len-ne1
returns-then-len-ne1 c =
    not_one c.args.object.now.entries c.len.result c.len.ensures.len c.if-len-ne1.true

pub returns-in-Some-default-String : goal.returns-in-Some-default-String
returns-in-Some-default-String c =
    let d = c.in-Some-default-String in
    one_text c.args.object.now.entries c.next.new.self c.len.result d.name.now d.field-0-1.now
    c.as_str.result.now
    c.as_str-in-Some-default-String.result.now
    c.len.ensures.len c.if-len-ne1.false (search rules) (search rules) (search (rules, view-String))

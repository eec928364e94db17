use Rattle.std.proofs.Common.{sym, ◌∙◌}
use Rattle.admitted_answers.proofs.Tests.{right_lists, right_set}
use Rattle.admitted_answers.proofs.admitted.is_admitted.Goals as goal

pub returns-then-are_lists : goal.returns-then-are_lists
returns-then-are_lists c =
    let lists =
    right_lists c.args.query.now c.args.fits.now c.credentials.result.now c.args.answer.now _
    c.are_lists.result
    c.credentials.ensures.value c.lists-lists.ensures c.are_lists.ensures.tested in
    let set =
    right_set c.args.query.now c.args.answer.now _ c.set_of.result c.has.result _ c.lists-lists.ensures
    c.set_of.ensures.set c.has.ensures (c.of.ensures c.set_of.result c.set_of.type_inv) in
    ((λ h. record { lists = lists.0 c.if-are_lists.true; set = set.0 h }), λ a. set.1 a.set)

pub returns-else-are_lists : goal.returns-else-are_lists
returns-else-are_lists c =
    let lists =
    right_lists c.args.query.now c.args.fits.now c.credentials.result.now c.args.answer.now _
    c.are_lists.result
    c.credentials.ensures.value c.lists-lists.ensures c.are_lists.ensures.tested in
    ((λ h. absurd (cc h)), λ a. sym c.if-are_lists.false ∙ lists.1 a.lists)

use Rattle.std.proofs.Common.{ap₂, ◌∙◌}
use Rattle.option_list.specs.Token.{entries_of}
use Rattle.option_list.specs.code.Writing.{added}
use Rattle.option_list.proofs.Writing.{added_all}
use Rattle.option_list.proofs.write.token.Goals as goal

pub returns : goal.returns
returns c =
    let q = c.args.query.now in
    let a = c.args.answer.now in
    c.in_ok-push_entries.ensures
    ∙ ap₂ added c.new-token.ensures.bytes (ap₂ entries_of c.credentials.ensures.value c.lists.ensures)
    ∙ added_all (entries_of q.credentials a)

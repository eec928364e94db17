use Rattle.std.specs.Option.{option_copied}
use Rattle.admitted_answers.proofs.Followed.{last_read}
use Rattle.admitted_answers.proofs.pages.last.Goals as goal

pub returns-in-Some : goal.returns-in-Some
returns-in-Some c = last_read (option_copied c.args.after)
    c.args.answers.now c.in-Some.answer.now c.in-Some.ensures.value

use Rattle.std.specs.Option.{option_copied}
use Rattle.dcql_answers.specs.Answer.{answer_cmp}
use Rattle.admitted_answers.specs.Admits.{Admits}
use Rattle.admitted_answers.proofs.Followed.{one_of_next}
use Rattle.admitted_answers.proofs.NextAnswer.{as_long}
use Rattle.option_tests.proofs.pages.page_text.Goals as goal

pub token-requires : goal.token-requires
token-requires c =
    let q = c.args.query.now in
    let fits = c.args.fits.now in
    as_long q fits c.at.result.now
    (one_of_next (Admits q fits) answer_cmp (option_copied c.args.after) c.in_ok-page.page.answers c.loop-i.i
    c.at.result.now c.in_ok-page.ensures.next c.at.ensures)

use Rattle.admitted_answers.proofs.NextAnswer.{as_long}
use Rattle.option_list.proofs.read.is_named.Goals as goal

pub token-requires : goal.token-requires
token-requires c =
    as_long c.args.query.now c.args.fits.now c.args.answer.now
    (c.is_admitted.ensures.0 c.if-not-is_admitted.false)

use Rattle.std.proofs.Common.{subst}
use Rattle.std.proofs.lemmas.Result.{err_from_is_err_and}
use Rattle.options_files.specs.Contents.{slots_of}
use Rattle.program_steps.specs.code.Endings.{outcome}
use Rattle.runs.proofs.Trees.{runs_out}
use Rattle.wallet_answers.specs.Holding.{Holding}
use Rattle.wallet_options.specs.Options.{holding}
use Rattle.wallet_answers.specs.Listing.{page_of}
use Rattle.wallet_options.specs.code.AskedFor.{meant}
use Rattle.wallet_options.specs.code.Errors.{IsNone}
use Rattle.wallet_options.proofs.Replies.{runs_page, runs_no_page}
use Rattle.wallet_options.proofs.page.page_reply.Goals as goal

pub returns-in-Ok : goal.returns-in-Ok
returns-in-Ok g c = λ listing w.
    let h : Holding = holding (slots_of c.args.credentials.now) (g.K.KeyDevice.state c.args.device.now).held
    c.args.now in
    runs_page listing (meant c.args.asked) c.args.query.now h (outcome c.in-Ok.reply) w
    (c.in-Ok.ensures.reply listing)

pub returns-in_err-not_an_option-in-Err-Refused : goal.returns-in_err-not_an_option-in-Err-Refused
returns-in_err-not_an_option-in-Err-Refused g c =
    let p = err_from_is_err_and c.from_residual.result c.from_residual.ensures.1 in
    rw (p.1, p.2) (λ listing w. runs_out _ w)

pub returns-in_ok-not_an_option-in-Err-Refused : goal.returns-in_ok-not_an_option-in-Err-Refused
returns-in_ok-not_an_option-in-Err-Refused g c = λ listing w.
    let h : Holding = holding (slots_of c.args.credentials.now) (g.K.KeyDevice.state c.args.device.now).held
    c.args.now in
    runs_no_page listing (meant c.args.asked) c.args.query.now h c.in-Err-Refused.rule _ w
    (subst (IsNone (page_of listing c.args.query.now h (meant c.args.asked).after c.args.asked.count))
    c.in-Err-Refused.field-0-is (c.in-Err-Refused.ensures.refused listing)) c.in_ok-not_an_option-in-Err-Refused.ensures

pub returns-in-Err-NoMemory : goal.returns-in-Err-NoMemory
returns-in-Err-NoMemory g c = λ listing w. runs_out _ w

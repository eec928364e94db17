use Rattle.wallet_answers.proofs.Paging.{token_page, first_page, refused_page, handed_on, no_memory}
use Rattle.wallet_answers.proofs.Paging.{all_admitted}
use Rattle.wallet_answers.proofs.pages.page_after.Goals as goal

pub returns-in_err-start-in-Some-clause-refused : goal.returns-in_err-start-in-Some-clause-refused
returns-in_err-start-in-Some-clause-refused c = λ listing h are.
    rw c.in-Some.is
    (handed_on _ _ c.in_err-start-in-Some.field-0.0 c.from_residual.ensures.1
    (refused_page listing c.args.query.now h c.args.fits.now c.in-Some.token.now c.args.count
    c.in_err-start-in-Some.field-0.0 c.read_token.ensures.well_formed are c.in_err-start-in-Some.ensures.refused))

pub returns-in_err-page-in-Some-clause-refused : goal.returns-in_err-page-in-Some-clause-refused
returns-in_err-page-in-Some-clause-refused c = λ listing h are.
    no_memory _ _ c.from_residual-in_err-page-in-Some.ensures.1

pub returns-in_err-page-in-None-clause-refused : goal.returns-in_err-page-in-None-clause-refused
returns-in_err-page-in-None-clause-refused c = λ listing h are.
    no_memory _ _ c.from_residual-in_err-page-in-None.ensures.1

pub returns-in_ok-page-in-Some-clause-page : goal.returns-in_ok-page-in-Some-clause-page
returns-in_ok-page-in-Some-clause-page c = λ listing h are.
    rw c.in-Some.is
    (token_page listing c.args.query.now h c.args.fits.now c.in-Some.token.now c.args.count
    c.in_ok-start-in-Some.start c.in_ok-page-in-Some.field-0.answers c.in_ok-page-in-Some.field-0.end
    c.read_token.ensures.well_formed are c.in_ok-start-in-Some.ensures.small c.in_ok-start-in-Some.ensures.admitted
    c.in_ok-start-in-Some.ensures.token c.in_ok-page-in-Some.ensures.following)

pub returns-in_ok-page-in-None-clause-page : goal.returns-in_ok-page-in-None-clause-page
returns-in_ok-page-in-None-clause-page c = λ listing h are.
    rw c.in-None.is
    (first_page listing c.args.query.now h c.args.fits.now c.args.count c.in_ok-page-in-None.field-0.answers
    c.in_ok-page-in-None.field-0.end are c.in_ok-page-in-None.ensures.following)

pub returns-in_ok-page-in-Some-clause-admitted : goal.returns-in_ok-page-in-Some-clause-admitted
returns-in_ok-page-in-Some-clause-admitted c =
    all_admitted c.args.query.now c.args.fits.now _ c.in_ok-page-in-Some.field-0.answers
    c.in_ok-page-in-Some.ensures.next

pub returns-in_ok-page-in-None-clause-admitted : goal.returns-in_ok-page-in-None-clause-admitted
returns-in_ok-page-in-None-clause-admitted c =
    all_admitted c.args.query.now c.args.fits.now _ c.in_ok-page-in-None.field-0.answers
    c.in_ok-page-in-None.ensures.next

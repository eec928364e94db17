use Rattle.std.proofs.Common.{◌∙◌}
use Rattle.std.proofs.lemmas.Result.{err_from_is_err_and}
use Rattle.runs.proofs.Trees.{runs_out, runs_past, runs_broken}
use Rattle.sdjwt_issue.specs.Issuing.{shared_digest}
use Rattle.sdjwt_issue.specs.code.Asking.{asked_of}
use Rattle.sdjwt_issue.proofs.Hidings.{own_digests_are, none_shared, some_shared}
use Rattle.sdjwt_issue.proofs.issuing.issue.Goals as goal

pub returns-in_err-hidden-clause-runs : goal.returns-in_err-hidden-clause-runs
returns-in_err-hidden-clause-runs g c =
    let p = err_from_is_err_and c.from_residual.result c.from_residual.ensures.1 in
    rw (p.1, p.2) (λ w. runs_out _ _)

pub returns-in_err-has_own_digests-clause-runs : goal.returns-in_err-has_own_digests-clause-runs
returns-in_err-has_own_digests-clause-runs g c =
    let p = err_from_is_err_and c.from_residual-in_err-has_own_digests.result
    c.from_residual-in_err-has_own_digests.ensures.1 in
    rw (p.1, p.2) (λ w. runs_out _ _)

pub returns-then-not-branch-clause-runs : goal.returns-then-not-branch-clause-runs
returns-then-not-branch-clause-runs g c = λ w.
    let own = own_digests_are (asked_of c.args.spec.now) c.in_ok-hidden.hidden c.deref.result.now
    c.in_ok-has_own_digests.field-0 c.in_ok-hidden.ensures c.deref.ensures.value
    c.in_ok-has_own_digests.ensures in
    runs_broken _ shared_digest _ _ (some_shared (asked_of c.args.spec.now) (own ∙ c.if-not-branch.true))

pub sign-requires-clause-own_digests : goal.sign-requires-clause-own_digests
sign-requires-clause-own_digests g c =
    own_digests_are (asked_of c.args.spec.now) c.in_ok-hidden.hidden c.deref.result.now
    c.in_ok-has_own_digests.field-0 c.in_ok-hidden.ensures c.deref.ensures.value
    c.in_ok-has_own_digests.ensures ∙ c.if-not-branch.false

pub returns-clause-runs : goal.returns-clause-runs
returns-clause-runs g c = λ w.
    let own = own_digests_are (asked_of c.args.spec.now) c.in_ok-hidden.hidden c.deref.result.now
    c.in_ok-has_own_digests.field-0 c.in_ok-hidden.ensures c.deref.ensures.value
    c.in_ok-has_own_digests.ensures in
    runs_past _ _ _ _ _ (none_shared (asked_of c.args.spec.now) (own ∙ c.if-not-branch.false))
    (c.sign.ensures.runs w)

use Rattle.std.proofs.Common.{◌∙◌}
use Rattle.std.proofs.lemmas.Result.{err_from_is_err_and}
use Rattle.request_object.proofs.Signing.{runs_signed, runs_unfinished, runs_unsigned}
use Rattle.request_object.proofs.made.sign_draft.Goals as goal

pub returns-in_err-finish-in-Ok-clause-runs : goal.returns-in_err-finish-in-Ok-clause-runs
returns-in_err-finish-in-Ok-clause-runs g c =
    let p = err_from_is_err_and c.from_residual.result c.from_residual.ensures.1 in
    rw (p.1, p.2) (λ w.
    runs_unfinished _ _ _ (c.as_bytes.ensures.value ∙ c.signing_input.ensures) _ _ w c.in-Ok.signature.items
    c.in-Ok.ensures.signed)

pub returns-in_ok-finish-in-Ok-clause-runs : goal.returns-in_ok-finish-in-Ok-clause-runs
returns-in_ok-finish-in-Ok-clause-runs g c = λ w.
    runs_signed _ _ _ (c.as_bytes.ensures.value ∙ c.signing_input.ensures) _ _ w c.in-Ok.signature.items _
    c.in-Ok.ensures.signed (rw c.deref.ensures.value at c.in_ok-finish-in-Ok.ensures.written)

pub returns-in-Err-clause-runs : goal.returns-in-Err-clause-runs
returns-in-Err-clause-runs g c = λ w. rw c.sign_refusal.ensures
    (runs_unsigned _ _ _ (c.as_bytes.ensures.value ∙ c.signing_input.ensures) _ _ w c.in-Err.error
    c.in-Err.ensures.signed)

use Rattle.std.proofs.Common.{arith}
use Rattle.sdjwt_issue.proofs.Asked.{issued_is_asked}
use Rattle.sdjwt_issue.proofs.issuing.signed_text.Goals as goal

pub returns-clause-read : goal.returns-clause-read
returns-clause-read c = λ s alg may own back. issued_is_asked s alg c.args.signature.now may own back (λ i.
    omega (arith, c.type_inv.signature i))

use Rattle.std.proofs.Common.{◌≡◌, rules, arith}
use Rattle.std.specs.Prelude.{option_map}
use Rattle.cose_sign1.specs.Writing.{sign1_bytes}
use Rattle.cose_sign1.proofs.ReadBack.{read_from}
use Rattle.cose_sign1.proofs.writing.write_sign1.Goals as goal

pub returns-clause-read : goal.returns-clause-read
returns-clause-read c =
    let written : c.finish.result.items ≡ sign1_bytes c.args.alg (option_map (λ b. b.now) c.args.kid)
    (option_map (λ b. b.now) c.args.payload) c.args.signature.now = search rules in
    read_from _ _ _ _ _ written (omega (arith, c.finish.result.small))

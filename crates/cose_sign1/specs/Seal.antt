-- The issuer's signature that a COSE_Sign1 carries: its algorithm, the bytes that are signed, and the
-- signature (RFC 9052, sections 3.1 and 4.4).
use Rattle.std.specs.Prelude.{ℕ, pos, List, unwrap_or}
use Rattle.claim_tree.specs.Credential.{Algorithm, cose, Seal}
use Rattle.cose_sign1.specs.Sign1.{Message, algorithm_of, signed_bytes}

-- The algorithm of label 1 of the protected headers. A message that breaks no rule has one.
abbrev pub seal_algorithm : Message → Algorithm
seal_algorithm m = cose (unwrap_or (algorithm_of m) (pos 0))

-- the seal of a message over a payload
abbrev pub cose_seal : Message → List ℕ → Seal
cose_seal m payload = record {
  algorithm = seal_algorithm m;
  message = signed_bytes m.protected payload;
  signature = m.signature;
}

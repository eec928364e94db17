-- The signature of a message: its algorithm, what it is over and its bytes (RFC 7515, sections 4.1.1 and
-- 5.1).
use Rattle.std.specs.Prelude.{[], codes, unwrap_or}
use Rattle.json_forms.specs.Look.{text_at}
use Rattle.claim_tree.specs.Credential.{Seal, jose}
use Rattle.jws_envelope.specs.Envelope.{Envelope}

-- The algorithm is the one that the header names. In a message that breaks no rule the name is there.
abbrev pub jws_seal : Envelope → Seal
jws_seal e = record {
  algorithm = jose (unwrap_or (text_at (codes "alg") e.header) []);
  message = e.signing_input;
  signature = e.signature;
}

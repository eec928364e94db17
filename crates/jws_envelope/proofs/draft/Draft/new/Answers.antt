use Rattle.std.proofs.Common.{◌∙◌, ap}
use Rattle.std.specs.Prelude.{option_map}
use Rattle.serde_json.specs.View.{view}
use Rattle.jws_envelope.specs.Draft.{input_of}
use Rattle.jws_envelope.proofs.WrittenMessages.{drafted_read}
use Rattle.jws_envelope.proofs.draft.Draft.new.Goals as goal

pub returns-clause-read : goal.returns-clause-read
returns-clause-read c object deep =
    drafted_read c.args.alg c.args.typ.now (option_map (λ s. s.now) c.args.kid) _ _ _ c.in_ok-header.ensures
    (c.in_ok-signing_input.ensures.written
    ∙ ap (λ h. input_of h (view c.args.payload.now)) c.in_ok-header.ensures)
    object c.in_ok-signing_input.ensures.header (c.in_ok-signing_input.ensures.payload deep)

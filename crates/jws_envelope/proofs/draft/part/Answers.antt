use Rattle.std.proofs.lemmas.Str.{IsUtf8-string_bytes}
use Rattle.jws_envelope.proofs.WrittenMessages.{read_back}
use Rattle.jws_envelope.proofs.draft.part.Goals as goal

pub returns-clause-read : goal.returns-clause-read
returns-clause-read c deep =
    read_back _ _ (c.in_ok-json.ensures.text c.requires) (IsUtf8-string_bytes c.in_ok-json.json)
    (c.in_ok-json.ensures.reads_back deep)

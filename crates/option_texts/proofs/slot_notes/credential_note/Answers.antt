use Rattle.std.proofs.Common.{rules}
use Rattle.option_texts.proofs.slot_notes.credential_note.Goals as goal

pub returns-in-None-2 : goal.returns-in-None-2
returns-in-None-2 g c = search rules

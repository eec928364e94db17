use Rattle.std.proofs.Common.{rules}
use Rattle.option_texts.proofs.slot_notes.date_note.Goals as goal

pub returns-in_default : goal.returns-in_default
returns-in_default c = search rules

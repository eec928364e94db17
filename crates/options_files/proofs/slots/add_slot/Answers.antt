-- A short answer, so that an edit of the slot of an unreadable file is refused at once.
use Rattle.std.proofs.Common.{rules}
use Rattle.options_files.proofs.slots.add_slot.Goals as goal

pub returns-in-Unreadable : goal.returns-in-Unreadable
returns-in-Unreadable c = search rules

use Rattle.std.proofs.Common.{rules}
use Rattle.json_forms.proofs.look.elements_at.Goals as goal

pub returns-in-Some : goal.returns-in-Some
returns-in-Some c = search rules

use Rattle.std.proofs.Common.{rules}
use Rattle.base_forms.proofs.url64.is_url64.Goals as goal

pub returns-in-65-to-90-2 : goal.returns-in-65-to-90-2
returns-in-65-to-90-2 c = search rules

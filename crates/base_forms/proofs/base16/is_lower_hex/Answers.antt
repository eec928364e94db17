use Rattle.std.proofs.Common.{rules}
use Rattle.base_forms.proofs.base16.is_lower_hex.Goals as goal

pub returns-in-48-to-57-2 : goal.returns-in-48-to-57-2
returns-in-48-to-57-2 c = search rules

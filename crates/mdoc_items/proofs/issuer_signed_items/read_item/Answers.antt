use Rattle.std.proofs.Common.{rules}
use Rattle.mdoc_items.proofs.issuer_signed_items.read_item.Goals as goal

pub returns-in-Some-2 : goal.returns-in-Some-2
returns-in-Some-2 c = search rules

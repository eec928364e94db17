use Rattle.std.proofs.Common.{rules}
use Rattle.mdoc_items.proofs.item_fields.ItemFields.or_named.Goals as goal

pub returns-clause-element_value : goal.returns-clause-element_value
returns-clause-element_value c = search rules

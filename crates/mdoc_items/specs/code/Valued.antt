-- What named trees in memory stand for.
use Rattle.std.specs.Prelude.{List, map}
use Rattle.owned_tree.specs.Owned.{tree_of}
use Rattle.mdoc_items.specs.declared.value.Named.{Named}
use Rattle.mdoc_items.specs.Value.{Valued}

abbrev pub value_in : Named → Valued
value_in n = (n.name.now, tree_of n.tree)

abbrev pub valued : List Named → List Valued
valued ns = map value_in ns

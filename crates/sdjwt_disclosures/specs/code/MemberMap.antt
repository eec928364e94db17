-- The members in a map by their names.
use Rattle.std.specs.Prelude.{List, map, String, string_bytes}
use Rattle.std.specs.Global.{Global}
use Rattle.claim_tree.specs.Parts.{Named}
use Rattle.owned_tree.specs.Owned.{tree_of}
use Rattle.owned_tree.specs.declared.owned.OwnedElement.{OwnedElement}

abbrev pub members_in : List (String Global × OwnedElement) → List Named
members_in es = map (λ e. (string_bytes e.0, e.1.held, tree_of e.1.tree)) es

-- Items in memory.
use Rattle.std.specs.Prelude.{List, map}
use Rattle.std.specs.List.{AllByRecursion}
use Rattle.mdoc_object.specs.Namespaces.{WrittenItem as SaidItem, WrittenNamespace as SaidNamespace}
use Rattle.mdoc_object.specs.Namespaces.{items_entry}
use Rattle.mdoc_object.specs.SecurityObject.{ObjectParts as SaidParts}
use Rattle.mdoc_object.specs.ValueDigests.{digest_entry, digests_entry}
use Rattle.mdoc_object.specs.declared.items.WrittenItem.{WrittenItem}
use Rattle.mdoc_object.specs.declared.items.WrittenNamespace.{WrittenNamespace}
use Rattle.mdoc_object.specs.declared.security_object.ObjectParts.{ObjectParts}
use Rattle.mdoc_written.specs.Containers.{Differ, AllRelated}

abbrev pub said_item : WrittenItem → SaidItem
said_item i = record { number = i.number; bytes = i.bytes.items }

abbrev pub said_items : List WrittenItem → List SaidItem
said_items items = map said_item items

abbrev pub said_namespace : WrittenNamespace → SaidNamespace
said_namespace n = record { name = n.name.now; items = said_items n.items.items }

abbrev pub said_namespaces : List WrittenNamespace → List SaidNamespace
said_namespaces ns = map said_namespace ns

abbrev pub said_parts : ObjectParts → SaidParts
said_parts o = record {
  kind = o.kind.now;
  from = o.from;
  until = o.until;
  key = o.key.now;
}

-- No two items of a namespace have one number.
abbrev pub NumbersDiffer : SaidNamespace → Type 0
NumbersDiffer n = AllRelated Differ (map digest_entry n.items)

-- No two namespaces have one name, and in none have two items one number.
pub record AllDiffer (ns : List SaidNamespace) : Type 0 where
  pub lists : AllRelated Differ (map items_entry ns)
  pub digests : AllRelated Differ (map digests_entry ns)
  pub numbers : AllByRecursion NumbersDiffer ns

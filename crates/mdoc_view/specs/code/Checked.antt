-- What the check of the issuer-signed items gives.
use Rattle.std.specs.Prelude.{◌≡◌, map, Some, None}
use Rattle.mdoc_view.specs.declared.item_rules.CheckedItems.{CheckedItems}
use Rattle.mdoc_view.specs.declared.item_rules.CheckedItems.TheVariants.{Read, Broken}
use Rattle.mdoc_items.specs.MapFields.{Entries}
use Rattle.mdoc_security.specs.MobileSecurityObject.{MobileSecurityObject}
use Rattle.mdoc_items.specs.IssuerSignedItems.{all_namespaces}
use Rattle.mdoc_items.specs.Parts.{said_namespace}
use Rattle.mdoc_view.specs.Refusal.{items_rule}

-- none of the rules 9 to 13 is broken and this is what the namespaces say, or this is the first that is
-- broken
abbrev pub IsChecked : MobileSecurityObject → Entries → CheckedItems → Type 0
IsChecked o namespaces (Read list) = (items_rule o namespaces ≡ None)
    × (all_namespaces namespaces ≡ Some (map said_namespace list.items))
IsChecked o namespaces (Broken n) = items_rule o namespaces ≡ Some n

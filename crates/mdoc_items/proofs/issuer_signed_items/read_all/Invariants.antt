use Rattle.std.proofs.Common.{◌≡◌, map}
use Rattle.cbor_core.specs.Seen.{span_of, entries_left}
use Rattle.cbor_core.specs.Views.{entries_of}
use Rattle.mdoc_items.specs.IssuerSignedItems.{all_namespaces}
use Rattle.mdoc_items.specs.Parts.{said_namespace}
use Rattle.owned_tree.specs.Prefixed.{prefixed}
use Rattle.mdoc_items.proofs.issuer_signed_items.read_all.Given as goal

abbrev pub invariant-loop-name : goal.invariant-loop-name
invariant-loop-name l = record {
  can_next : (goal.iterator-loop-name).can_next l.name-iterator;
  is_finite : (goal.iterator-loop-name).is_finite l.name-iterator;
  left : prefixed (map said_namespace l.list.items) (all_namespaces (entries_left l.name-iterator))
      ≡ all_namespaces (entries_of (span_of l.namespaces));
}

use Rattle.std.proofs.Common.{◌≡◌, codes, option_map}
use Rattle.std.specs.Option.{option_or}
use Rattle.cbor_core.specs.Seen.{span_of, entries_left}
use Rattle.cbor_core.specs.Views.{entries_of, find_in}
use Rattle.mdoc_items.proofs.item_fields.ItemFields.of.Given as goal

abbrev pub invariant-loop-key : goal.invariant-loop-key
invariant-loop-key l = record {
  can_next : (goal.iterator-loop-key).can_next l.key-iterator;
  is_finite : (goal.iterator-loop-key).is_finite l.key-iterator;
  digest_id : option_or (option_map span_of l.found.digest_id)
      (find_in (codes "digestID") (entries_left l.key-iterator)) ≡ find_in (codes "digestID")
      (entries_of (span_of l.map));
  random : option_or (option_map span_of l.found.random)
      (find_in (codes "random") (entries_left l.key-iterator)) ≡ find_in (codes "random")
      (entries_of (span_of l.map));
  element_identifier : option_or (option_map span_of l.found.element_identifier)
      (find_in (codes "elementIdentifier") (entries_left l.key-iterator)) ≡ find_in
      (codes "elementIdentifier") (entries_of (span_of l.map));
  element_value : option_or (option_map span_of l.found.element_value)
      (find_in (codes "elementValue") (entries_left l.key-iterator)) ≡ find_in (codes "elementValue")
      (entries_of (span_of l.map));
}

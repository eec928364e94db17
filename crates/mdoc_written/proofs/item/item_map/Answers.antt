use Rattle.std.proofs.Common.{codes, ◌≡◌, ◌∙◌, IfOk, pos, List, subst, ap}
use Rattle.serde_json.specs.View.{view}
use Rattle.cbor_core.specs.Order.{Pair}
use Rattle.cbor_core.specs.Writing.{whole_bytes, text_bytes, byte_string_bytes}
use Rattle.mdoc_written.specs.Containers.{map_bytes}
use Rattle.mdoc_written.specs.Element.{element_bytes}
use Rattle.mdoc_written.specs.Item.{random_bytes}
use Rattle.mdoc_written.proofs.Sorting.{four_named}
use Rattle.mdoc_written.proofs.item.item_map.Goals as goal

pub returns : goal.returns
returns c =
    subst (λ (ps : List Pair). IfOk c.named_map.result (λ v. v.items ≡ map_bytes ps))
    (four_named (codes "random") (codes "digestID") (codes "elementValue") (codes "elementIdentifier")
    (c.deref.ensures.value ∙ c.in_ok-random.ensures ∙ ap byte_string_bytes c.to_be_bytes.ensures)
    (c.deref-2.ensures.value ∙ c.in_ok-digest_id.ensures)
    (c.deref-3.ensures.value ∙ c.in_ok-value.ensures) (c.deref-4.ensures.value ∙ c.in_ok-identifier.ensures))
    c.named_map.ensures

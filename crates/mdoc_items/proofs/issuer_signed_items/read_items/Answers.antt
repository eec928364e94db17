use Rattle.std.proofs.Common.{◌≡◌, Some, option_map, map, sym, ap, ◌∙◌}
use Rattle.cbor_core.specs.Seen.{span_of, items_left}
use Rattle.mdoc_items.specs.IssuerSignedItems.{all_items, item_in}
use Rattle.mdoc_items.specs.Parts.{said_item}
use Rattle.owned_tree.specs.Prefixed.{prefixed}
use Rattle.mdoc_items.proofs.Prefixes.{one_more, behind_first}
use Rattle.mdoc_items.proofs.issuer_signed_items.read_items.Goals as goal

pub loop-item-preserved : goal.loop-item-preserved
loop-item-preserved c =
    let rest = all_items (items_left c.next.new.self) in
    let first : item_in (span_of c.in-Some.item) ≡ Some (said_item c.in-Some-2.signed) =
    sym c.in_ok-signed.ensures ∙ ap (option_map said_item) c.in-Some-2.is in
    record {
      can_next = tt;
      is_finite = tt;
      left = one_more said_item c.loop-item.list.items c.push.new.self.items c.in-Some-2.signed rest
          c.in_ok-push-in-Some-2.ensures.items
          ∙ ap (prefixed (map said_item c.loop-item.list.items))
          (behind_first (item_in (span_of c.in-Some.item)) (said_item c.in-Some-2.signed) rest first
          ∙ ap all_items (sym c.in-Some.ensures.steps))
          ∙ c.loop-item.invariant.left;
    }

use Rattle.std.proofs.Common.{◌≡◌, ◌<◌, IfOk, sym, ◌∙◌, arith, subst}
use Rattle.owned_tree.specs.Owned.{tree_of}
use Rattle.cbor_core.specs.declared.kind.Kind.TheVariants as kind
use Rattle.cbor_core.specs.Seen.{span_of}
use Rattle.mdoc_items.proofs.Levels.{value_by}
use Rattle.mdoc_items.proofs.value.+tree.Goals as goal

pub tree_at-returns-in-Bytes : goal.tree_at-returns-in-Bytes
tree_at-returns-in-Bytes t c =
    let h : 0 < c.args.levels = omega arith in
    subst (λ x. IfOk c.bytes_tree.result (λ o. tree_of o ≡ x))
    (value_by c.args.levels (span_of c.args.item) kind.Bytes h (sym c.kind.ensures ∙ c.in-Bytes.is))
    c.bytes_tree.ensures

pub tree_at-returns-in-Text : goal.tree_at-returns-in-Text
tree_at-returns-in-Text t c =
    let h : 0 < c.args.levels = omega arith in
    subst (λ x. IfOk c.string_tree.result (λ o. tree_of o ≡ x))
    (value_by c.args.levels (span_of c.args.item) kind.Text h (sym c.kind.ensures ∙ c.in-Text.is))
    c.string_tree.ensures

pub tree_at-returns-in-List : goal.tree_at-returns-in-List
tree_at-returns-in-List t c =
    let h : 0 < c.args.levels = omega arith in
    subst (λ x. IfOk c.list_tree.result (λ o. tree_of o ≡ x))
    (value_by c.args.levels (span_of c.args.item) kind.List h (sym c.kind.ensures ∙ c.in-List.is))
    c.list_tree.ensures

pub tree_at-returns-in-Map : goal.tree_at-returns-in-Map
tree_at-returns-in-Map t c =
    let h : 0 < c.args.levels = omega arith in
    subst (λ x. IfOk c.map_tree.result (λ o. tree_of o ≡ x))
    (value_by c.args.levels (span_of c.args.item) kind.Map h (sym c.kind.ensures ∙ c.in-Map.is))
    c.map_tree.ensures

pub tree_at-returns-in-Tag : goal.tree_at-returns-in-Tag
tree_at-returns-in-Tag t c =
    let h : 0 < c.args.levels = omega arith in
    subst (λ x. IfOk c.content_tree.result (λ o. tree_of o ≡ x))
    (value_by c.args.levels (span_of c.args.item) kind.Tag h (sym c.kind.ensures ∙ c.in-Tag.is))
    c.content_tree.ensures

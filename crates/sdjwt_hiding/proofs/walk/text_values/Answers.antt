use Rattle.std.proofs.Common.{◌≡◌, [], length, map, string_bytes, sym, ap, ◌∙◌, arith}
use Rattle.std.specs.Vec.Iter.{into_iter_items}
use Rattle.serde_json.specs.Data.{item}
use Rattle.sdjwt_hiding.specs.Hiding.{texts}
use Rattle.sdjwt_hiding.proofs.WalkSteps.{before_items, before_more, before_none, none_left}
use Rattle.sdjwt_hiding.proofs.walk.text_values.Goals as goal

pub loop-text-preserved : goal.loop-text-preserved
loop-text-preserved c = (
  omega (arith, c.in-Some.ensures.steps.1, c.loop-text.invariant.0, ap length c.in-Some.ensures.steps.0),
  ap (λ vs. before_items vs (texts (map string_bytes (into_iter_items c.next.new.self))))
      c.in_ok-push.ensures.items
      ∙ before_more c.loop-text.values.items c.text_value.result
      (texts (map string_bytes (into_iter_items c.next.new.self)))
      ∙ ap (λ d. before_items c.loop-text.values.items
      (item d (texts (map string_bytes (into_iter_items c.next.new.self)))))
      c.text_value.ensures
      ∙ ap (λ ts. before_items c.loop-text.values.items (texts (map string_bytes ts)))
      (sym c.in-Some.ensures.steps.0)
      ∙ c.loop-text.invariant.1,
)

pub returns : goal.returns
returns c =
    let none : into_iter_items c.loop-text.text-iterator ≡ [] =
    none_left _ (sym c.in-None.ensures.steps.0 ∙ c.loop-text.invariant.0) in
    sym (before_none c.loop-text.values.items)
    ∙ ap (λ ts. before_items c.loop-text.values.items (texts (map string_bytes ts))) (sym none)
    ∙ c.loop-text.invariant.1

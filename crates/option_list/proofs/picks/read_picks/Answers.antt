use Rattle.std.proofs.Common.{map, inl, refl, ap, ◌∙◌, arith}
use Rattle.option_list.specs.Token.{pick_text}
use Rattle.option_list.specs.Form.{IsSmall}
use Rattle.option_list.proofs.Lacks.{pick_lacks}
use Rattle.option_list.proofs.Lists.{none_so_far, one_more, none_at, all_at}
use Rattle.option_list.proofs.picks.read_picks.Goals as goal

pub loop-part-init : goal.loop-part-init
loop-part-init c = none_so_far IsSmall pick_text _ _ c.new-picks.ensures.items

pub loop-part-preserved : goal.loop-part-preserved
loop-part-preserved c =
    one_more (λ s. s.now) IsSmall pick_text c.deref-part-items.result.now c.loop-part.part-index _
    c.loop-part.picks.items _
    c.in-Some.pick c.loop-part-test.true c.loop-part.invariant c.in-Some.ensures
    c.in_ok-push-in-Some.ensures.items

pub returns-in-None : goal.returns-in-None
returns-in-None c =
    none_at (λ s. s.now) IsSmall pick_text 44 (pick_lacks 44 (inl (omega arith)) refl)
    c.deref-part-items.result.now c.args.text.now
    c.loop-part.part-index _ c.loop-part-test.true
    (ap (map (λ s. s.now)) c.deref-part-items.ensures.value ∙ c.in_ok-parts.ensures) c.in-None.ensures

pub returns : goal.returns
returns c =
    all_at (λ s. s.now) IsSmall pick_text 44 c.deref-part-items.result.now c.args.text.now
    c.loop-part.part-index
    c.loop-part.picks.items c.loop-part-test.false
    (ap (map (λ s. s.now)) c.deref-part-items.ensures.value ∙ c.in_ok-parts.ensures) c.loop-part.invariant

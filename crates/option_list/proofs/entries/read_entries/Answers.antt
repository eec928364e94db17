use Rattle.std.proofs.Common.{map, ap, ◌∙◌}
use Rattle.std.proofs.lemmas.List.{map-append}
use Rattle.option_list.specs.code.Entries.{entry_in}
use Rattle.option_list.specs.Token.{entry_text}
use Rattle.option_list.specs.Form.{IsEntry}
use Rattle.option_list.proofs.Lacks.{entry_lacks}
use Rattle.option_list.proofs.Lists.{none_so_far, one_more, none_at, all_at, read_as}
use Rattle.option_list.proofs.entries.read_entries.Goals as goal

pub loop-part-init : goal.loop-part-init
loop-part-init c = none_so_far IsEntry entry_text _ _ (ap (map entry_in) c.new-entries.ensures.items)

pub loop-part-preserved : goal.loop-part-preserved
loop-part-preserved c =
    one_more (λ s. s.now) IsEntry entry_text c.deref-part-items.result.now c.loop-part.part-index _
    (map entry_in c.loop-part.entries.items) _
    (entry_in c.in-Some.entry) c.loop-part-test.true c.loop-part.invariant
    (read_as IsEntry entry_text entry_in _ _ _ c.in_ok-entry.ensures c.in-Some.is)
    (ap (map entry_in) c.in_ok-push.ensures.items ∙ map-append entry_in c.loop-part.entries.items _)

pub returns-in_default : goal.returns-in_default
returns-in_default c =
    none_at (λ s. s.now) IsEntry entry_text 43 entry_lacks c.deref-part-items.result.now c.args.text.now
    c.loop-part.part-index _ c.loop-part-test.true
    (ap (map (λ s. s.now)) c.deref-part-items.ensures.value
    ∙ c.in_ok-parts.ensures) (read_as IsEntry entry_text entry_in _ _ _ c.in_ok-entry.ensures c.in_default.is)

pub returns : goal.returns
returns c =
    all_at (λ s. s.now) IsEntry entry_text 43 c.deref-part-items.result.now c.args.text.now
    c.loop-part.part-index
    (map entry_in c.loop-part.entries.items) c.loop-part-test.false
    (ap (map (λ s. s.now)) c.deref-part-items.ensures.value ∙ c.in_ok-parts.ensures) c.loop-part.invariant

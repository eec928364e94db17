use Rattle.std.proofs.Common.{sym, subst, ◌∙◌, option_map, lit<}
use Rattle.option_list.specs.Token.{picks_text}
use Rattle.option_list.specs.Form.{IsSmall, IsEach, Reads}
use Rattle.option_list.proofs.Parts.{not_cut, was_cut, entry_uncut, no_id, no_picks}
use Rattle.option_list.proofs.entries.read_entry.Goals as goal

pub returns-in_default : goal.returns-in_default
returns-in_default c =
    entry_uncut c.args.text.now
    (not_cut 58 _ c.split_once.result c.split_once.ensures.cases (lit< tt) c.in_default.is)

pub returns-then-not-is_id : goal.returns-then-not-is_id
returns-then-not-is_id c =
    no_id c.args.text.now _ _
    (was_cut 58 _ c.split_once.result _ c.split_once.ensures.cases (lit< tt) c.in-Some.is)
    (sym c.is_id.ensures ∙ c.if-not-is_id.true)

pub returns-in-None : goal.returns-in-None
returns-in-None c =
    no_picks c.args.text.now _ _
    (was_cut 58 _ c.split_once.result _ c.split_once.ensures.cases (lit< tt) c.in-Some.is)
    (subst (λ o. Reads (IsEach IsSmall) picks_text c.in-Some.picks.now (option_map (λ v. v.items) o))
    c.in-None.is
    c.in_ok-picks.ensures)

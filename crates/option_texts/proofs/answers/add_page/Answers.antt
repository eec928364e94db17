use Rattle.std.proofs.Common.{◌+◌, ◌++◌, drop, flat_map, string_bytes, sym, ap, ◌∙◌}
use Rattle.fit_table.specs.Wallet.{slots_in}
use Rattle.option_texts.specs.Lines.{answer_lines}
use Rattle.option_texts.proofs.Adding.{left_at, added}
use Rattle.option_texts.proofs.answers.add_page.Goals as goal

pub loop-i-preserved : goal.loop-i-preserved
loop-i-preserved c =
    let text = string_bytes c.loop-i.text in
    let answers = c.args.page.now.answers in
    let lines = answer_lines (slots_in c.args.wallet.now) c.args.query.now in
    let here = left_at answers c.loop-i.i c.at.result.now c.at.ensures in
    added text (string_bytes c.add_answer.new.text) (lines c.at.result.now)
    (flat_map lines (drop (c.loop-i.i + 1) answers)) _
    (ap (λ rest. text ++ flat_map lines rest) (sym here) ∙ c.loop-i.invariant) c.in_ok-add_answer.ensures

use Rattle.std.proofs.Common.{◌≡◌, ◌++◌, drop, string_bytes, flat_map}
use Rattle.fit_table.specs.Wallet.{slots_in}
use Rattle.option_texts.specs.Lines.{answer_lines}
use Rattle.option_texts.proofs.answers.add_page.Given as goal

abbrev pub invariant-loop-i : goal.invariant-loop-i
invariant-loop-i l =
    string_bytes l.text ++ flat_map (answer_lines (slots_in l.wallet) l.query) (drop l.i l.page.answers)
    ≡ string_bytes l.fn.text ++ flat_map (answer_lines (slots_in l.wallet) l.query) l.page.answers

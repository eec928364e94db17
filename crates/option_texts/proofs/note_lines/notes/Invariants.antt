use Rattle.std.proofs.Common.{◌≡◌, ◌++◌, drop, string_bytes}
use Rattle.fit_table.specs.Wallet.{slots_in}
use Rattle.option_texts.specs.Notes.{notes_text}
use Rattle.option_texts.proofs.note_lines.notes.Given as goal

abbrev pub invariant-loop-place : goal.invariant-loop-place
invariant-loop-place g l =
    string_bytes l.text
    ++ notes_text (g.K.KeyDevice.state l.device).held l.moment l.place (drop l.place (slots_in l.wallet))
    ≡ notes_text (g.K.KeyDevice.state l.device).held l.moment 0 (slots_in l.wallet)

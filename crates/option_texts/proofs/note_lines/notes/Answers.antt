use Rattle.std.proofs.Common.{◌+◌, ◌++◌, drop, string_bytes, sym, ap, ◌∙◌}
use Rattle.fit_table.specs.Slot.{slot_of}
use Rattle.fit_table.specs.Wallet.{slots_in}
use Rattle.option_texts.specs.Notes.{slot_line, notes_text}
use Rattle.option_texts.proofs.Adding.{left_at, added}
use Rattle.option_texts.proofs.note_lines.notes.Goals as goal

pub loop-place-preserved : goal.loop-place-preserved
loop-place-preserved g c =
    let told = notes_text (g.K.KeyDevice.state c.args.device.now).held c.args.moment in
    let text = string_bytes c.loop-place.text in
    let slots = slots_in c.args.wallet.now in
    let place = c.loop-place.place in
    let here = left_at slots place (slot_of c.slot.result.now) c.slot.ensures in
    let rest = told (place + 1) (drop (place + 1) slots) in
    let noted = ap (λ note. text ++ (slot_line place note ++ rest)) c.note_of.ensures in
    let before = ap (λ left. text ++ told place left) (sym here) ∙ c.loop-place.invariant in
    added text (string_bytes c.add_note.new.text) (slot_line place c.note_of.result) rest (told 0 slots)
    (noted ∙ before) c.in_ok-add_note.ensures

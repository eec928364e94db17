use Rattle.std.proofs.Common.{◌∙◌, map, string_bytes, Global, inl, inr, arith, sym}
use Rattle.std.proofs.lemmas.Grind.{common_steps}
use Rattle.wallet_words.proofs.Commands.{free, simple, taken, untaken}
use Rattle.wallet_words.proofs.command.read_command.Goals as goal

pub returns-in-Ok : goal.returns-in-Ok
returns-in-Ok c =
    let same = c.in_ok-parser.ensures.0 in
    let faultless = c.in-Ok.ensures.kinds (free _ same) in
    let found = (c.in-Ok.ensures.matches (simple _ same)).1 in
    c.matched_command.ensures
    ∙ taken _ (map (string_bytes {Z = Global}) c.args.words.now) _ same faultless found

pub returns : goal.returns
returns c =
    let same = c.in_ok-parser.ensures.0 in
    elim (c.in-Err.ensures.kinds (free _ same)) [
      | inl memory ↦
          absurd (grind (arith, common_steps, c.kind.ensures, c.eq.ensures, c.if-eq.false, memory))
      | inr among ↦ sym (untaken _ (map (string_bytes {Z = Global}) c.args.words.now) _ same among)
    ]

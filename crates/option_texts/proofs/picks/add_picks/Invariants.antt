use Rattle.std.proofs.Common.{◌≡◌, ◌++◌, drop, string_bytes, flat_map}
use Rattle.fit_table.specs.Wallet.{slots_in}
use Rattle.option_texts.specs.Lines.{pick_lines}
use Rattle.option_texts.proofs.picks.add_picks.Given as goal

abbrev pub invariant-loop-pick : goal.invariant-loop-pick
invariant-loop-pick l =
    string_bytes l.text ++ flat_map (pick_lines (slots_in l.wallet) l.query) (drop l.pick-index l.picks)
    ≡ string_bytes l.fn.text ++ flat_map (pick_lines (slots_in l.wallet) l.query) l.picks

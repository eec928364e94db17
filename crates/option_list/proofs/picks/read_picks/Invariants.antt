use Rattle.std.proofs.Common.{map}
use Rattle.option_list.specs.Token.{pick_text}
use Rattle.option_list.specs.Form.{IsSmall}
use Rattle.option_list.proofs.Lists.{SoFar}
use Rattle.option_list.proofs.picks.read_picks.Given as goal

abbrev pub invariant-loop-part : goal.invariant-loop-part
invariant-loop-part l = SoFar IsSmall pick_text (map (λ s. s.now) l.part-items) l.part-index l.picks.items

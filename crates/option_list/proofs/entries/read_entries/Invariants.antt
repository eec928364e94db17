use Rattle.std.proofs.Common.{map}
use Rattle.option_list.specs.Token.{entry_text}
use Rattle.option_list.specs.Form.{IsEntry}
use Rattle.option_list.specs.code.Entries.{entry_in}
use Rattle.option_list.proofs.Lists.{SoFar}
use Rattle.option_list.proofs.entries.read_entries.Given as goal

abbrev pub invariant-loop-part : goal.invariant-loop-part
invariant-loop-part l =
    SoFar IsEntry entry_text (map (λ s. s.now) l.part-items) l.part-index (map entry_in l.entries.items)

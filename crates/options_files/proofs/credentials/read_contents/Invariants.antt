use Rattle.std.proofs.Common.{◌≤◌, length, map}
use Rattle.runs.specs.World.{World}
use Rattle.runs.proofs.Each.{IsRest}
use Rattle.options_files.specs.Reading.{read_content}
use Rattle.options_files.specs.code.Meant.{meant}
use Rattle.wallet_files.specs.code.Entries.{meant as meant_entry}
use Rattle.options_files.proofs.credentials.read_contents.Given as goal

-- a run of what is left is a run of the whole, with what was read before it
abbrev pub invariant-loop-entry : goal.invariant-loop-entry
invariant-loop-entry g l = record {
  runs : (w : World)
      → IsRest meant_entry read_content l.entries l.entry-index (map meant l.contents.items)
      (record w { store = g.S.Store.state l.initial.store }) (record w { store = g.S.Store.state l.store });
  count : length l.contents.items ≤ l.entry-index;
}

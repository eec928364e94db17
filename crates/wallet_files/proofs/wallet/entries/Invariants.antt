use Rattle.std.proofs.Common.{◌≡◌, ◌≤◌, ◌+◌, ◌++◌, length, map}
use denote.Shadow.{shadow}
use denote.Text.{Utf8}
use Rattle.base_forms.specs.Lines.{lines_of}
use Rattle.wallet_files.specs.code.Entries.{meant}
use Rattle.wallet_files.specs.Wallet.{bad_entry, entries_of}
use Rattle.wallet_files.proofs.wallet.entries.Given as goal

abbrev pub invariant-loop-rest : goal.invariant-loop-rest
invariant-loop-rest l = record {
  entries : map meant l.entries.items ++ entries_of (lines_of l.rest) ≡ entries_of (lines_of l.text);
  bad : bad_entry (l.number + 1) (lines_of l.rest) ≡ bad_entry 1 (lines_of l.text);
  number : l.number ≤ 64;
  count : length l.entries.items ≡ l.number;
  text : shadow (Utf8 l.rest);
}

abbrev pub decreases-loop-rest : goal.decreases-loop-rest
decreases-loop-rest l = length l.rest

use Rattle.std.proofs.Common.{◌≡◌, ◌≤◌, ◌+◌, ◌++◌, length, string_bytes}
use denote.Shadow.{shadow}
use denote.Text.{Utf8}
use Rattle.base_forms.specs.Lines.{lines_of}
use Rattle.wallet_files.specs.TreeLines.{bad_line, matching, match_lines}
use Rattle.std.specs.Option.{option_copied}
use Rattle.wallet_files.proofs.tree_lines.matches.Given as goal

abbrev pub invariant-loop-rest : goal.invariant-loop-rest
invariant-loop-rest l = record {
  found : string_bytes l.found ++ match_lines (matching (option_copied l.wanted) l.number
      (lines_of l.rest)) ≡ match_lines (matching (option_copied l.wanted) 0 (lines_of l.text));
  bad : bad_line (l.number + 1) (lines_of l.rest) ≡ bad_line 1 (lines_of l.text);
  number : l.number ≤ 1024;
  text : shadow (Utf8 l.rest);
}

abbrev pub decreases-loop-rest : goal.decreases-loop-rest
decreases-loop-rest l = length l.rest

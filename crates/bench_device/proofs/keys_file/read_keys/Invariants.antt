use Rattle.std.proofs.Common.{◌≡◌, ◌≤◌, ◌+◌, length}
use denote.Shadow.{shadow}
use denote.Text.{Utf8}
use Rattle.base_forms.specs.Lines.{lines_of, read_lines}
use Rattle.bench_device.specs.KeysFile.{with_line, keys_in}
use Rattle.bench_device.specs.code.Keys.{all_meant}
use Rattle.bench_device.proofs.keys_file.read_keys.Given as goal

abbrev pub invariant-loop-rest : goal.invariant-loop-rest
invariant-loop-rest l = record {
  keys : read_lines with_line l.number (all_meant l.keys.items) (lines_of l.rest) ≡ keys_in l.text;
  number : l.number ≡ length l.keys.items + 1;
  few : length l.keys.items ≤ 256;
  text : shadow (Utf8 l.rest);
}

abbrev pub decreases-loop-rest : goal.decreases-loop-rest
decreases-loop-rest l = length l.rest

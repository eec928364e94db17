use Rattle.std.proofs.Common.{◌≡◌, ◌≤◌, ◌+◌, length}
use denote.Shadow.{shadow}
use denote.Text.{Utf8}
use Rattle.base_forms.specs.Lines.{lines_of, read_lines}
use Rattle.request_clients.specs.Clients.{with_line, clients_in}
use Rattle.request_clients.proofs.read.read_lines.Given as goal

abbrev pub invariant-loop-rest : goal.invariant-loop-rest
invariant-loop-rest l = record {
  clients : read_lines with_line l.number l.clients.items (lines_of l.rest) ≡ clients_in l.text;
  number : l.number ≡ length l.clients.items + 1;
  few : length l.clients.items ≤ 256;
  text : shadow (Utf8 l.rest);
}

abbrev pub decreases-loop-rest : goal.decreases-loop-rest
decreases-loop-rest l = length l.rest

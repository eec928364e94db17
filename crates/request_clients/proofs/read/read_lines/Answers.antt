use Rattle.std.proofs.Common.{◌∙◌, ◌+◌, [], ◌∷◌, List, sym, ap, arith, rules, length, ◌<◌}
use Rattle.base_forms.specs.Lines.{lines_of, read_lines}
use Rattle.request_clients.specs.Clients.{Client, next_client, with_line}
use Rattle.request_clients.proofs.ClientLines.{clients_end, clients_go}
use Rattle.std.proofs.lemmas.List.{length-append}
use Rattle.request_clients.proofs.read.read_lines.Goals as goal

pub returns-in-None-clause-refused : goal.returns-in-None-clause-refused
returns-in-None-clause-refused c =
    sym c.loop-rest.invariant.clients
    ∙ clients_end c.loop-rest.number c.loop-rest.clients.items _ _ _ c.cut_line.ensures.lines
    (ap (λ (cs : List Client). next_client cs c.cut_line.result.0.now) (sym c.deref.ensures.value)
    ∙ sym c.in_ok-client.ensures.next ∙ c.in-None.is)

fewer : (c : goal.In_ok-push-in-Some) → length c.deref.result.now < 256
fewer c = rw c.in-Some.is at c.in_ok-client.ensures.few

pub loop-rest-preserved : goal.loop-rest-preserved
loop-rest-preserved c = record {
  clients =
      ap (λ (cs : List Client).
      read_lines with_line (c.loop-rest.number + 1) cs (lines_of c.cut_line.result.1.now))
      c.in_ok-push-in-Some.ensures.items
      ∙ sym (clients_go c.loop-rest.number c.loop-rest.clients.items _ _ _ c.in-Some.client
      c.cut_line.ensures.lines
      (ap (λ (cs : List Client). next_client cs c.cut_line.result.0.now)
      (sym c.deref.ensures.value) ∙ sym c.in_ok-client.ensures.next ∙ c.in-Some.is))
      ∙ c.loop-rest.invariant.clients;
  number = omega (
    arith,
    ap length c.in_ok-push-in-Some.ensures.items,
    length-append c.loop-rest.clients.items (c.in-Some.client ∷ []),
    c.loop-rest.invariant.number,
  );
  few = omega (
    arith,
    ap length c.in_ok-push-in-Some.ensures.items,
    length-append c.loop-rest.clients.items (c.in-Some.client ∷ []),
    c.loop-rest.invariant.few,
    ap length c.deref.ensures.value,
    fewer c,
  );
  text = search rules;
}

use Rattle.std.proofs.Common.{◌∙◌, ◌+◌, [], ◌∷◌, List, option_map, sym, ap, arith, rules, length, ◌<◌}
use Rattle.base_forms.specs.Lines.{lines_of, read_lines}
use Rattle.bench_device.specs.Bench.{Key}
use Rattle.bench_device.specs.KeysFile.{next_key, with_line}
use Rattle.bench_device.specs.code.Keys.{meant, all_meant}
use Rattle.bench_device.specs.declared.key.Key as code
use Rattle.bench_device.proofs.KeyLines.{keys_end, keys_go}
use Rattle.std.proofs.lemmas.List.{map-append, length-append}
use Rattle.bench_device.proofs.keys_file.read_keys.Goals as goal

pub returns-in-None-clause-refused : goal.returns-in-None-clause-refused
returns-in-None-clause-refused c =
    sym c.loop-rest.invariant.keys
    ∙ keys_end c.loop-rest.number (all_meant c.loop-rest.keys.items) _ _ _ c.cut_line.ensures.lines
    (ap (λ (ks : List code.Key). next_key (all_meant ks) c.cut_line.result.0.now) (sym c.deref.ensures.value)
    ∙ sym c.in_ok-key.ensures.next ∙ ap (option_map meant) c.in-None.is)

fewer : (c : goal.In_ok-push-in-Some) → length c.deref.result.now < 256
fewer c = rw c.in-Some.is at c.in_ok-key.ensures.few

pub loop-rest-preserved : goal.loop-rest-preserved
loop-rest-preserved c = record {
  keys =
      ap (λ (ks : List Key).
      read_lines with_line (c.loop-rest.number + 1) ks (lines_of c.cut_line.result.1.now))
      (ap all_meant c.in_ok-push-in-Some.ensures.items
      ∙ map-append meant c.loop-rest.keys.items (c.in-Some.key ∷ []))
      ∙ sym (keys_go c.loop-rest.number (all_meant c.loop-rest.keys.items) _ _ _ (meant c.in-Some.key)
      c.cut_line.ensures.lines
      (ap (λ (ks : List code.Key). next_key (all_meant ks) c.cut_line.result.0.now)
      (sym c.deref.ensures.value) ∙ sym c.in_ok-key.ensures.next ∙ ap (option_map meant) c.in-Some.is))
      ∙ c.loop-rest.invariant.keys;
  number = omega (
    arith,
    ap length c.in_ok-push-in-Some.ensures.items,
    length-append c.loop-rest.keys.items (c.in-Some.key ∷ []),
    c.loop-rest.invariant.number,
  );
  few = omega (
    arith,
    ap length c.in_ok-push-in-Some.ensures.items,
    length-append c.loop-rest.keys.items (c.in-Some.key ∷ []),
    ap length c.deref.ensures.value,
    fewer c,
  );
  text = search rules;
}

use Rattle.std.proofs.Common.{◌++◌, [], ◌∷◌, map, length, refl, ap, ◌∙◌, arith}
use Rattle.std.proofs.lemmas.List.{length-append, map_push}
use Rattle.std.proofs.lemmas.Result.{err_from_is_err_and}
use Rattle.program_steps.proofs.Stops.{is_early}
use Rattle.program_steps.specs.code.Endings.{early}
use Rattle.runs.proofs.Each.{one_more, one_stop, none_left}
use Rattle.runs.proofs.Trees.{runs_out}
use Rattle.runs.specs.Runs.{out_of_memory}
use Rattle.options_files.specs.Reading.{read_content}
use Rattle.options_files.specs.code.Meant.{meant}
use Rattle.wallet_files.specs.code.Entries.{meant as meant_entry}
use Rattle.options_files.proofs.credentials.read_contents.Goals as goal

pub loop-entry-preserved : goal.loop-entry-preserved
loop-entry-preserved g c = record {
  runs = λ w.
      one_more meant_entry read_content c.args.entries.now c.loop-entry.entry-index c.entry-item.result
      (map meant c.loop-entry.contents.items) _ (meant c.in_ok-content.content) _ _ _
      c.loop-entry-test.true c.entry-item.is
      (ap (map meant) c.in_ok-push.ensures.items
      ∙ map_push meant c.loop-entry.contents.items c.in_ok-content.content)
      (c.loop-entry.invariant.runs w) (c.in_ok-content.ensures w);
  count = omega (
    arith,
    ap length c.in_ok-push.ensures.items,
    length-append c.loop-entry.contents.items (c.in_ok-content.content ∷ []),
    c.loop-entry.invariant.count,
  );
}

pub returns-in_err-content-clause-runs : goal.returns-in_err-content-clause-runs
returns-in_err-content-clause-runs g c =
    let p = err_from_is_err_and c.from_residual.result c.from_residual.ensures.1 in
    rw (p.1, p.2) (λ w.
    one_stop meant_entry read_content c.args.entries.now c.loop-entry.entry-index c.entry-item.result
    (map meant c.loop-entry.contents.items) _ _ _
    (early c.in_err-content.field-0.0)
    (early c.in_err-content.field-0.0) c.loop-entry-test.true c.entry-item.is
    (c.loop-entry.invariant.runs w) (c.in_err-content.ensures w)
    (is_early _ _ c.in_err-content.field-0.0))

pub returns-clause-runs : goal.returns-clause-runs
returns-clause-runs g c = λ w.
    none_left meant_entry read_content c.args.entries.now c.loop-entry.entry-index
    (map meant c.loop-entry.contents.items) _ _
    c.loop-entry-test.false (c.loop-entry.invariant.runs w)

pub returns-in_err-push-clause-runs : goal.returns-in_err-push-clause-runs
returns-in_err-push-clause-runs g c =
    let p = err_from_is_err_and c.from_residual-in_err-push.result c.from_residual-in_err-push.ensures.1 in
    rw (p.1, p.2) (λ w.
    one_more meant_entry read_content c.args.entries.now c.loop-entry.entry-index c.entry-item.result
    (map meant c.loop-entry.contents.items)
    (map meant c.loop-entry.contents.items ++ meant c.in_ok-content.content ∷ [])
    (meant c.in_ok-content.content) _ _ _
    c.loop-entry-test.true c.entry-item.is refl (c.loop-entry.invariant.runs w)
    (c.in_ok-content.ensures w) _ out_of_memory (runs_out _ _))

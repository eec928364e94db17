use Rattle.std.proofs.Common.{length}
use Rattle.std.proofs.lemmas.Result.{err_from_is_err_and}
use Rattle.cbor_validity.specs.Item.{pair_at, item_at}
use Rattle.cbor_validity.proofs.Steps.{times_step, times_fails, times_done, break_step, break_fails}
use Rattle.cbor_validity.proofs.Steps.{break_found}
use Rattle.cbor_validity.proofs.Steps.{break_short, break_done}
use Rattle.cbor_validity.proofs.Small.{small_whole}
use Rattle.cbor_validity.proofs.walk.+skip.Goals as goal

pub skip-returns-then-first-lt64 : goal.skip-returns-then-first-lt64
skip-returns-then-first-lt64 t c =
    small_whole c.args.depth c.in-Some.first.now c.args.bytes.now c.in-Some.rest.now c.in-Some.ensures.cases.0
    c.if-first-lt24.true c.if-first-lt64.true

pub skip_items-returns-in_err-rest : goal.skip_items-returns-in_err-rest
skip_items-returns-in_err-rest t c = let p =
    err_from_is_err_and c.from_residual.result c.from_residual.ensures.1 in rw (p.1, p.2)
    (times_fails (item_at c.args.depth) c.args.count c.loop.counter c.loop.rest.now _ _ c.loop-test.true
    c.in_err-rest.ensures c.loop.invariant)

pub skip_items-loop-preserved : goal.skip_items-loop-preserved
skip_items-loop-preserved t c =
    times_step (item_at c.args.depth) c.args.count c.loop.counter c.loop.rest.now _ _ c.loop-test.true
    c.in_ok-rest.ensures c.loop.invariant

pub skip_items-returns : goal.skip_items-returns
skip_items-returns t c =
    times_done (item_at c.args.depth) c.args.count c.loop.counter c.loop.rest.now _ c.loop-test.false
    c.loop.invariant

pub skip_items_to_break-returns-in_default : goal.skip_items_to_break-returns-in_default
skip_items_to_break-returns-in_default t c =
    break_short (item_at c.args.depth) _ c.loop.rest.now _ c.in_default.ensures.cases c.loop.invariant

pub skip_items_to_break-returns-then-first : goal.skip_items_to_break-returns-then-first
skip_items_to_break-returns-then-first t c =
    break_found (item_at c.args.depth)
    (length c.args.bytes.now) c.loop.counter c.in-Some.first.now c.in-Some.after.now c.loop.rest.now _
    c.loop-test.true c.in-Some.ensures.cases.0 c.if-first.true c.loop.invariant

pub skip_items_to_break-returns-in_err-rest : goal.skip_items_to_break-returns-in_err-rest
skip_items_to_break-returns-in_err-rest t c = let p =
    err_from_is_err_and c.from_residual.result c.from_residual.ensures.1 in rw (p.1, p.2)
    (break_fails (item_at c.args.depth)
    (length c.args.bytes.now) c.loop.counter c.in-Some.first.now c.in-Some.after.now c.loop.rest.now _ _
    c.loop-test.true c.in-Some.ensures.cases.0 c.if-first.false c.in_err-rest.ensures c.loop.invariant)

pub skip_items_to_break-loop-preserved : goal.skip_items_to_break-loop-preserved
skip_items_to_break-loop-preserved t c =
    break_step (item_at c.args.depth)
    (length c.args.bytes.now) c.loop.counter c.in-Some.first.now c.in-Some.after.now c.loop.rest.now _ _
    c.loop-test.true c.in-Some.ensures.cases.0 c.if-first.false c.in_ok-rest.ensures c.loop.invariant

pub skip_items_to_break-returns : goal.skip_items_to_break-returns
skip_items_to_break-returns t c =
    break_done (item_at c.args.depth)
    (length c.args.bytes.now) c.loop.counter c.loop.rest.now _ c.loop-test.false c.loop.invariant

pub skip_pairs-returns-in_err-rest : goal.skip_pairs-returns-in_err-rest
skip_pairs-returns-in_err-rest t c = let p =
    err_from_is_err_and c.from_residual.result c.from_residual.ensures.1 in rw (p.1, p.2)
    (times_fails (pair_at (item_at c.args.depth)) c.args.count c.loop.counter c.loop.rest.now _ _
    c.loop-test.true c.in_err-rest.ensures c.loop.invariant)

pub skip_pairs-loop-preserved : goal.skip_pairs-loop-preserved
skip_pairs-loop-preserved t c =
    times_step (pair_at (item_at c.args.depth)) c.args.count c.loop.counter c.loop.rest.now _ _
    c.loop-test.true c.in_ok-rest.ensures c.loop.invariant

pub skip_pairs-returns : goal.skip_pairs-returns
skip_pairs-returns t c =
    times_done (pair_at (item_at c.args.depth)) c.args.count c.loop.counter c.loop.rest.now _
    c.loop-test.false c.loop.invariant

pub skip_pairs_to_break-returns-in_default : goal.skip_pairs_to_break-returns-in_default
skip_pairs_to_break-returns-in_default t c =
    break_short (pair_at (item_at c.args.depth)) _ c.loop.rest.now _ c.in_default.ensures.cases
    c.loop.invariant

pub skip_pairs_to_break-returns-then-first : goal.skip_pairs_to_break-returns-then-first
skip_pairs_to_break-returns-then-first t c =
    break_found (pair_at (item_at c.args.depth))
    (length c.args.bytes.now) c.loop.counter c.in-Some.first.now c.in-Some.after.now c.loop.rest.now _
    c.loop-test.true c.in-Some.ensures.cases.0 c.if-first.true c.loop.invariant

pub skip_pairs_to_break-returns-in_err-rest : goal.skip_pairs_to_break-returns-in_err-rest
skip_pairs_to_break-returns-in_err-rest t c = let p =
    err_from_is_err_and c.from_residual.result c.from_residual.ensures.1 in rw (p.1, p.2)
    (break_fails (pair_at (item_at c.args.depth))
    (length c.args.bytes.now) c.loop.counter c.in-Some.first.now c.in-Some.after.now c.loop.rest.now _ _
    c.loop-test.true c.in-Some.ensures.cases.0 c.if-first.false c.in_err-rest.ensures c.loop.invariant)

pub skip_pairs_to_break-loop-preserved : goal.skip_pairs_to_break-loop-preserved
skip_pairs_to_break-loop-preserved t c =
    break_step (pair_at (item_at c.args.depth))
    (length c.args.bytes.now) c.loop.counter c.in-Some.first.now c.in-Some.after.now c.loop.rest.now _ _
    c.loop-test.true c.in-Some.ensures.cases.0 c.if-first.false c.in_ok-rest.ensures c.loop.invariant

pub skip_pairs_to_break-returns : goal.skip_pairs_to_break-returns
skip_pairs_to_break-returns t c =
    break_done (pair_at (item_at c.args.depth))
    (length c.args.bytes.now) c.loop.counter c.loop.rest.now _ c.loop-test.false c.loop.invariant

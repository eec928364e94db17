use Rattle.std.proofs.Common.{◌+◌, Some, None, length, subst, sym, ap, ◌∙◌, arith}
use Rattle.std.specs.Option.{option_map}
use Rattle.dcql_answers.specs.Answer.{answer_cmp}
use Rattle.admitted_answers.specs.Admits.{Admits}
use Rattle.admitted_answers.specs.Least.{IsLeastOf, Follows}
use Rattle.admitted_answers.specs.code.Search.{rank_of}
use Rattle.admitted_answers.specs.code.Step.{reached}
use Rattle.admitted_answers.proofs.NextAnswer.{next_set_is, spot_is, no_spot, spot_read, searched, few_lists}
use Rattle.admitted_answers.proofs.NextAnswer.{rank_fits}
use Rattle.admitted_answers.proofs.steps.step_after.Goals as goal

pub rank_of-requires : goal.rank_of-requires
rank_of-requires c =
    few_lists (λ ps. ps.items) c.args.query.now c.args.fits.now c.lists-lists.result.now c.args.after.now
    c.credentials-queries.ensures.well_formed.few c.lists-lists.ensures c.requires.admitted

pub overflow_add-rank_of : goal.overflow_add-rank_of
overflow_add-rank_of c =
    let few =
    few_lists (λ ps. ps.items) c.args.query.now c.args.fits.now c.lists-lists.result.now c.args.after.now
    c.credentials-queries.ensures.well_formed.few c.lists-lists.ensures c.requires.admitted in
    let fits = rank_fits (length c.lists-lists.result.now) c.rank_of.result few c.rank_of.ensures.below in
    omega arith

pub returns-in-Some : goal.returns-in-Some
returns-in-Some c =
    let q = c.args.query.now in
    let fits = c.args.fits.now in
    let a = c.args.after.now in
    spot_is q fits a c.requires.admitted c.in-Some.spot
    (spot_read q c.credentials-queries.result.now fits _ a (Some c.in-Some.spot) c.later_lists.result
    c.credentials-queries.ensures.value c.lists-lists.ensures c.later_lists.ensures c.in-Some.is)

pub returns-in-None : goal.returns-in-None
returns-in-None c =
    let q = c.args.query.now in
    let fits = c.args.fits.now in
    let a = c.args.after.now in
    let none =
    spot_read q c.credentials-queries.result.now fits _ a None c.later_lists.result
    c.credentials-queries.ensures.value c.lists-lists.ensures c.later_lists.ensures c.in-None.is in
    subst (λ r. IsLeastOf (Follows (Admits q fits) answer_cmp (Some a)) answer_cmp
    (option_map (reached fits (length q.credentials) a) r)) (sym c.onto.ensures)
    (next_set_is q fits c.args.sets.now c.credentials-queries.ensures.well_formed.few c.requires.table a
    c.requires.admitted (no_spot q fits a c.requires.admitted none) c.open_set.result
    (searched q c.credentials-queries.result.now fits c.args.sets.now (c.rank_of.result + 1) (rank_of a + 1)
    c.open_set.result c.credentials-queries.ensures.value
    (ap (λ n. n + 1) (c.rank_of.ensures.rank ∙ ap rank_of c.lists-lists.ensures)) c.open_set.ensures))

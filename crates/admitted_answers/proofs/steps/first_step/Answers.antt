use Rattle.std.proofs.Common.{None, [], length, subst, sym, refl}
use Rattle.std.specs.Option.{option_map}
use Rattle.dcql_answers.specs.Answer.{answer_cmp}
use Rattle.admitted_answers.specs.Admits.{Admits}
use Rattle.admitted_answers.specs.Least.{IsLeastOf, Follows}
use Rattle.admitted_answers.specs.code.Step.{reached}
use Rattle.admitted_answers.proofs.NextAnswer.{first_is, searched}
use Rattle.admitted_answers.proofs.steps.first_step.Goals as goal

pub returns : goal.returns
returns c =
    let q = c.args.query.now in
    let fits = c.args.fits.now in
    subst (λ r. IsLeastOf (Follows (Admits q fits) answer_cmp None) answer_cmp
    (option_map (reached fits (length q.credentials) []) r)) (sym c.onto.ensures)
    (first_is q fits c.args.sets.now c.credentials.ensures.well_formed.few c.requires c.open_set.result
    (searched q c.credentials.result.now fits c.args.sets.now 0 0 c.open_set.result
    c.credentials.ensures.value refl c.open_set.ensures))

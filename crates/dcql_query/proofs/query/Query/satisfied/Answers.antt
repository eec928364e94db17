use Rattle.std.proofs.Common.{length, option_map, sym, ap, ◌∙◌}
use Rattle.dcql_query.specs.code.Covered.{are_met, covers}
use Rattle.dcql_query.proofs.Enough.{some_enough, all_enough}
use Rattle.dcql_query.proofs.query.Query.satisfied.Goals as goal

pub returns-in-Some : goal.returns-in-Some
returns-in-Some c =
    let q = c.args.self.now in
    let sets = sym (ap (λ v. v.sets) c.self.view_is) ∙ ap (option_map (λ s. s.items)) c.in-Some.is in
    some_enough c.args.present (length q.credentials) q.sets c.in-Some.sets.items c.are_met.result sets
    (c.are_met.ensures ∙ ap (are_met c.args.present) c.deref.ensures.value)

pub returns-in-None : goal.returns-in-None
returns-in-None c =
    let q = c.args.self.now in
    let sets = sym (ap (λ v. v.sets) c.self.view_is) ∙ ap (option_map (λ s. s.items)) c.in-None.is in
    all_enough c.args.present (length q.credentials) q.sets c.covers.result sets
    (c.covers.ensures ∙ ap (covers c.args.present) c.all-all.ensures.bits)

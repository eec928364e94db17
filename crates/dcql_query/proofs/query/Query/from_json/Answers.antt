use Rattle.std.proofs.Common.{◌≡◌, true, sym, subst, rules}
use Rattle.std.specs.Prelude.{None}
use Rattle.serde_json.specs.View.{view}
use Rattle.dcql_rules.specs.Rules.{query_rule}
use Rattle.dcql_query.specs.WellFormed.{IsQuery}
use Rattle.dcql_query.specs.code.Readable.{are_readable_credentials}
use Rattle.dcql_rules.proofs.Least.{unbroken, least_broken, few_values}
use Rattle.dcql_query.proofs.Readable.{queries_readable}
use Rattle.dcql_query.proofs.WellFormed.{query_well_formed}
use Rattle.dcql_query.proofs.query.Query.from_json.Goals as goal

pub returns-in-Some-clause-least : goal.returns-in-Some-clause-least
returns-in-Some-clause-least c = least_broken (view c.args.value.now) c.in-Some.rule (sym c.in-Some.ensures)

pub returns-clause-unbroken : goal.returns-clause-unbroken
returns-clause-unbroken c =
    let e : query_rule (view c.args.value.now) ≡ None = cc in
    unbroken (view c.args.value.now) e

pub read_credentials-requires : goal.read_credentials-requires
read_credentials-requires c =
    let e : query_rule (view c.args.value.now) ≡ None = cc in
    subst (λ qs. are_readable_credentials qs ≡ true) (sym c.elements_at-queries.ensures)
    (queries_readable (view c.args.value.now) e)

pub read_credential_sets-requires : goal.read_credential_sets-requires
read_credential_sets-requires c =
    let e : query_rule (view c.args.value.now) ≡ None = cc in
    (few_values (view c.args.value.now) view c.elements_at-queries.result.now c.elements_at-queries.ensures
    e).1

pub invariant_of-result : goal.invariant_of-result
invariant_of-result c =
    let e : query_rule (view c.args.value.now) ≡ None = cc in
    subst IsQuery (sym (search rules)) (query_well_formed (view c.args.value.now) e)

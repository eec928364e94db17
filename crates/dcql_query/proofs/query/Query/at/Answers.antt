use Rattle.std.proofs.Common.{◌≡◌, ◌<◌, length, slice_get, Some, refl, sym, subst}
use Rattle.std.proofs.lemmas.Option.{slice_get_read}
use Rattle.dcql_query.specs.Query.{query_from}
use Rattle.dcql_query.specs.code.Stored.{query_in}
use Rattle.dcql_query.proofs.Known.{named_at}
use Rattle.dcql_query.proofs.query.Query.at.Goals as goal

pub returns-clause-at : goal.returns-clause-at
returns-clause-at c =
    let i = c.args.i in
    let q = c.index.result.now in
    let items = c.self.inside.credentials.items in
    let within : i < length items = subst (λ v. i < length v.credentials) (sym c.self.view_is) c.requires in
    subst (λ v. slice_get v.credentials i ≡ Some q) c.self.view_is
    (slice_get_read items _ i q refl within c.index.ensures)

pub returns-clause-named : goal.returns-clause-named
returns-clause-named c =
    let i = c.args.i in
    let q = c.index.result.now in
    let items = c.self.inside.credentials.items in
    let within : i < length items = subst (λ v. i < length v.credentials) (sym c.self.view_is) c.requires in
    subst (λ v. query_from 0 q.id v.credentials ≡ Some i) c.self.view_is
    (named_at (query_in c.self.inside) i q c.self.invariant
    (slice_get_read items _ i q refl within c.index.ensures))

use Rattle.std.proofs.Common.{◌≡◌, true, sym, subst, rules}
use Rattle.serde_json.specs.View.{view}
use Rattle.credential_query.specs.WellFormed.{IsCredential}
use Rattle.credential_query.specs.Readable.{are_readable_claims}
use Rattle.credential_query.proofs.Readable.{claims_of_readable}
use Rattle.credential_query.proofs.WellFormed.{credential_well_formed}
use Rattle.credential_query.proofs.credential.CredentialQuery.from_valid.Goals as goal

pub read_claims-requires : goal.read_claims-requires
read_claims-requires c =
    subst (λ cs. are_readable_claims cs ≡ true) (sym c.elements_at.ensures)
    (claims_of_readable (view c.args.query.now) c.requires)

pub invariant_of-result : goal.invariant_of-result
invariant_of-result c =
    subst IsCredential (sym (search rules)) (credential_well_formed (view c.args.query.now) c.requires)

use Rattle.std.proofs.Common.{rules}
use Rattle.credential_query.proofs.credential.CredentialQuery.allows_kind.Goals as goal

pub returns-in-None : goal.returns-in-None
returns-in-None c = search rules

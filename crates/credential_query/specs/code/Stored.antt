-- What the fields of a credential query in memory mean.
use Rattle.std.specs.Prelude.{map, option_map}
use Rattle.credential_query.specs.declared.credential.CredentialQuery.TheInside as credential
use Rattle.credential_query.specs.Credential.{Credential}

abbrev pub credential_in : credential.Inside → Credential
credential_in q = record {
  id = q.id;
  format = q.format;
  kinds = option_map (λ k. k.items) q.kinds;
  multiple = q.multiple;
  binding = q.binding;
  claims = q.claims.items;
  sets = map (λ s. s.items) q.sets.items;
}

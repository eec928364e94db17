-- What a query in the Digital Credentials Query Language asks for (OpenID4VP 1.0, section 6).
use Rattle.std.specs.Prelude.{ℕ, ◌+◌, Bool, false, List, [], ◌∷◌, Option, Some, None, unwrap_or}
use Rattle.std.specs.Prelude.{if◌then◌else◌}
use Rattle.std.specs.List.{slice_index_or}
use Rattle.std.specs.Str.{bytes_eq}
pub use Rattle.credential_query.specs.Credential.{Credential}

-- A credential set query (section 6.2). Bit i of an option says whether it names credential query i.
pub record CredentialSet : Type 0 where
  pub options : List ℕ
  pub required : Bool

-- A query. `sets` is none where it has no `credential_sets`, so that every credential query is to be
-- answered.
pub record Query : Type 0 where
  pub credentials : List Credential
  pub sets : Option (List CredentialSet)

-- the credential sets, an empty list where it has no `credential_sets`
abbrev pub sets_in : Query → List CredentialSet
sets_in q = unwrap_or q.sets []

abbrev pub no_options : CredentialSet
no_options = record { options = []; required = false }

-- credential set i, and one of no options past the last
abbrev pub credential_set_at : Query → ℕ → CredentialSet
credential_set_at q i = slice_index_or (sets_in q) i no_options

-- the place of the first credential query with this id, where the first of all is at place n
abbrev pub query_from : ℕ → List ℕ → List Credential → Option ℕ
query_from n id [] = None
query_from n id (q ∷ qs) = if bytes_eq id q.id then Some n else query_from (n + 1) id qs

-- What the code has looked at before it reads the credential queries.
use Rattle.std.specs.Prelude.{Bool, List}
use Rattle.std.specs.List.{list_all}
use Rattle.serde_json.specs.Data.{Data}
use Rattle.credential_query.specs.Readable.{is_readable_credential}

abbrev pub are_readable_credentials : List Data → Bool
are_readable_credentials qs = list_all is_readable_credential qs

-- How it is tested that the credential queries which are present are enough.
use Rattle.std.specs.Prelude.{ℕ, ◌==◌, ◌||◌, not, Bool, List, bit_and}
use Rattle.std.specs.List.{list_all, list_any}
use Rattle.dcql_query.specs.Query.{CredentialSet}

abbrev pub covers : ℕ → ℕ → Bool
covers present wanted = bit_and wanted present == wanted

abbrev pub is_set_met : ℕ → CredentialSet → Bool
is_set_met present s = not s.required || list_any (covers present) s.options

abbrev pub are_met : ℕ → List CredentialSet → Bool
are_met present sets = list_all (is_set_met present) sets

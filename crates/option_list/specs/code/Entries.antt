-- What is made of the entries of a token.
use Rattle.std.specs.Prelude.{ℕ, ◌&&◌, Bool, true, List, [], ◌∷◌, map, is_some, if◌then◌else◌}
use Rattle.std.specs.Str.{bytes_eq}
use Rattle.dcql_answers.specs.declared.pick.Pick.{Pick}
use Rattle.dcql_query.specs.Query.{Credential, query_from}
use Rattle.option_list.specs.declared.entries.Entry.{Entry as ReadEntry}
use Rattle.option_list.specs.Token.{Entry}

-- what an entry in memory says
abbrev pub entry_in : ReadEntry → Entry
entry_in e = record { id = e.id.now; picks = e.picks.items }

-- each id is that of a credential query
abbrev pub are_known : List Credential → List Entry → Bool
are_known qs [] = true
are_known qs (e ∷ es) = is_some (query_from 0 e.id qs) && are_known qs es

-- the picks of the first entry with this id
abbrev pub picks_named : List Entry → List ℕ → List Pick
picks_named [] id = []
picks_named (e ∷ es) id = if bytes_eq id e.id then e.picks else picks_named es id

abbrev pub lists_named : List Credential → List Entry → List (List Pick)
lists_named qs es = map (λ q. picks_named es q.id) qs

-- The token of an answer. It is a text of this product's own, by which a user names an answer.
use Rattle.std.specs.Prelude.{ℕ, Bool, true, false, List, [], ◌∷◌, ◌++◌, map, decimal}
use Rattle.std.specs.List.{join_with_byte}
use Rattle.dcql_answers.specs.declared.pick.Pick.{Pick}
use Rattle.dcql_answers.specs.Answer.{is_answered}
use Rattle.dcql_query.specs.Query.{Credential, Query}

-- the place of the credential, `.` and the place of the claim set
abbrev pub pick_text : Pick → List ℕ
pick_text p = decimal p.credential ++ 46 ∷ decimal p.set

-- joined by `,`
abbrev pub picks_text : List Pick → List ℕ
picks_text ps = join_with_byte 44 (map pick_text ps)

-- the picks for the credential query with this id
pub record Entry : Type 0 where
  pub id : List ℕ
  pub picks : List Pick

-- the id, `:` and the picks
abbrev pub entry_text : Entry → List ℕ
entry_text e = e.id ++ 58 ∷ picks_text e.picks

-- joined by `+`
abbrev pub entries_text : List Entry → List ℕ
entries_text es = join_with_byte 43 (map entry_text es)

abbrev pub entry_if : Bool → Entry → List Entry → List Entry
entry_if true e es = e ∷ es
entry_if false e es = es

-- an entry for each credential query that has picks, in the order of the query
abbrev pub entries_of : List Credential → List (List Pick) → List Entry
entries_of [] a = []
entries_of (q ∷ qs) [] = []
entries_of (q ∷ qs) (ps ∷ a) = entry_if (is_answered ps) (record { id = q.id; picks = ps }) (entries_of qs a)

abbrev pub token_of : Query → List (List Pick) → List ℕ
token_of q a = entries_text (entries_of q.credentials a)

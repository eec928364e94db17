-- A JSON value as a list of tokens that gives it back. With it two values are equal in at most one way, so
-- that an equation of values may be a fact that a struct keeps.
use Rattle.std.specs.Prelude.{◌≡◌, refl, ℕ, Bool, List, [], ◌∷◌, ◌++◌}
use Rattle.std.proofs.Common.{sym, ap, ◌∙◌, append_assoc}
use Rattle.std.proofs.lemmas.List.{append-nil}
use Rattle.std.specs.Coded.{Coded, code_by, coded_list, codes}
use base.Stored.{coded_float}
use Rattle.serde_json.specs.Data.{Num, Data, null, boolean, number, string, array, object}
use Rattle.serde_json.specs.Data.{Items, no_items, item, Members, no_members, member}

-- ---- tokens, each written behind its parts

data Token : Type 0 where
  nothing : Token
  truth : Bool → Token
  numeral : Num → Token
  text : List ℕ → Token
  list : Token
  fields : Token
  list_end : Token
  put_item : Token
  fields_end : Token
  put_member : List ℕ → Token

abbrev mutual
  tokens : Data → List Token
  tokens null = nothing ∷ []
  tokens (boolean b) = truth b ∷ []
  tokens (number n) = numeral n ∷ []
  tokens (string s) = text s ∷ []
  tokens (array ds) = item_tokens ds ++ list ∷ []
  tokens (object ms) = member_tokens ms ++ fields ∷ []

  item_tokens : Items → List Token
  item_tokens no_items = list_end ∷ []
  item_tokens (item d ds) = tokens d ++ (item_tokens ds ++ put_item ∷ [])

  member_tokens : Members → List Token
  member_tokens no_members = fields_end ∷ []
  member_tokens (member k d ms) = tokens d ++ (member_tokens ms ++ put_member k ∷ [])

-- ---- and read back with stacks

record Stacks : Type 0 where
  values : List Data
  items : List Items
  members : List Members

abbrev push : Data → Stacks → Stacks
push d s = record s { values = d ∷ s.values }

abbrev close_list : List Items → Stacks → Stacks
close_list [] s = s
close_list (ds ∷ rest) s = record { values = array ds ∷ s.values; items = rest; members = s.members }

abbrev close_object : List Members → Stacks → Stacks
close_object [] s = s
close_object (ms ∷ rest) s = record { values = object ms ∷ s.values; items = s.items; members = rest }

abbrev more_items : List Data → List Items → Stacks → Stacks
more_items (d ∷ vs) (ds ∷ rest) s = record { values = vs; items = item d ds ∷ rest; members = s.members }
more_items _ _ s = s

abbrev more_members : List ℕ → List Data → List Members → Stacks → Stacks
more_members k (d ∷ vs) (ms ∷ rest) s =
    record { values = vs; items = s.items; members = member k d ms ∷ rest }
more_members k _ _ s = s

abbrev step : Token → Stacks → Stacks
step nothing s = push null s
step (truth b) s = push (boolean b) s
step (numeral n) s = push (number n) s
step (text b) s = push (string b) s
step list s = close_list s.items s
step fields s = close_object s.members s
step list_end s = record s { items = no_items ∷ s.items }
step put_item s = more_items s.values s.items s
step fields_end s = record s { members = no_members ∷ s.members }
step (put_member k) s = more_members k s.values s.members s

abbrev run : List Token → Stacks → Stacks
run [] s = s
run (k ∷ ks) s = run ks (step k s)

mutual
  run_tokens : (d : Data) (rest : List Token) (s : Stacks) → run (tokens d ++ rest) s ≡ run rest (push d s)
  run_tokens null rest s = refl
  run_tokens (boolean b) rest s = refl
  run_tokens (number n) rest s = refl
  run_tokens (string b) rest s = refl
  run_tokens (array ds) rest s =
      ap (λ ks. run ks s) (append_assoc (item_tokens ds) (list ∷ []) rest) ∙ run_items ds (list ∷ rest) s
  run_tokens (object ms) rest s =
      ap (λ ks. run ks s) (append_assoc (member_tokens ms) (fields ∷ []) rest)
      ∙ run_members ms (fields ∷ rest) s

  run_items : (ds : Items) (rest : List Token) (s : Stacks)
      → run (item_tokens ds ++ rest) s ≡ run rest (record s { items = ds ∷ s.items })
  run_items no_items rest s = refl
  run_items (item d ds) rest s =
      ap (λ ks. run ks s) (append_assoc (tokens d) (item_tokens ds ++ put_item ∷ []) rest)
      ∙ run_tokens d ((item_tokens ds ++ put_item ∷ []) ++ rest) s
      ∙ ap (λ ks. run ks (push d s)) (append_assoc (item_tokens ds) (put_item ∷ []) rest)
      ∙ run_items ds (put_item ∷ rest) (push d s)

  run_members : (ms : Members) (rest : List Token) (s : Stacks)
      → run (member_tokens ms ++ rest) s ≡ run rest (record s { members = ms ∷ s.members })
  run_members no_members rest s = refl
  run_members (member k d ms) rest s =
      ap (λ ks. run ks s) (append_assoc (tokens d) (member_tokens ms ++ put_member k ∷ []) rest)
      ∙ run_tokens d ((member_tokens ms ++ put_member k ∷ []) ++ rest) s
      ∙ ap (λ ks. run ks (push d s)) (append_assoc (member_tokens ms) (put_member k ∷ []) rest)
      ∙ run_members ms (put_member k ∷ rest) (push d s)

abbrev top : List Data → Data
top [] = null
top (d ∷ vs) = d

abbrev none : Stacks
none = record { values = []; items = []; members = [] }

abbrev data_from : List Token → Data
data_from ks = top (run ks none).values

given_back : (d : Data) → data_from (tokens d) ≡ d
given_back d = ap data_from (sym (append-nil (tokens d)))
    ∙ ap (λ (s : Stacks). top s.values) (run_tokens d [] none)

-- ---- codes

num_code : Coded Num
num_code = hlevel (coded_float, codes)

token_code : Coded Token
token_code = hlevel (num_code, codes)

pub data_code : Coded Data
data_code = code_by (List Token) (coded_list token_code) tokens data_from given_back

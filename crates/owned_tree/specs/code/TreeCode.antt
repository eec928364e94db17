-- A claim tree as a list of tokens that gives it back. With it two trees are equal in at most one way, so
-- that an equation of trees may be a fact that a struct keeps.
use Rattle.std.specs.Prelude.{◌≡◌, refl, ℕ, ℤ, Bool, List, [], ◌∷◌, ◌++◌}
use Rattle.std.proofs.Common.{sym, ap, ◌∙◌, append_assoc}
use Rattle.std.proofs.lemmas.List.{append-nil}
use Rattle.std.specs.Coded.{Coded, code_by, coded_list, codes}
use Rattle.claim_tree.specs.Tree.{Tree, Text, Whole, Truth, Null, Bytes, Other, ListOf, RecordOf}
use Rattle.claim_tree.specs.Tree.{Elements, no_elements, element, Members, no_members, member}

-- ---- tokens, each written behind its parts

data Token : Type 0 where
  text : List ℕ → Token
  integer : ℤ → Token
  boolean : Bool → Token
  null : Token
  bytes : List ℕ → Token
  other : Token
  list : Bool → Token
  fields : Token
  list_end : Token
  put_element : Bool → Token
  fields_end : Token
  put_member : List ℕ → Bool → Token

abbrev mutual
  tokens : Tree → List Token
  tokens (Text s) = text s ∷ []
  tokens (Whole z) = integer z ∷ []
  tokens (Truth b) = boolean b ∷ []
  tokens Null = null ∷ []
  tokens (Bytes s) = bytes s ∷ []
  tokens Other = other ∷ []
  tokens (ListOf l es) = element_tokens es ++ list l ∷ []
  tokens (RecordOf ms) = member_tokens ms ++ fields ∷ []

  element_tokens : Elements → List Token
  element_tokens no_elements = list_end ∷ []
  element_tokens (element h t es) = tokens t ++ (element_tokens es ++ put_element h ∷ [])

  member_tokens : Members → List Token
  member_tokens no_members = fields_end ∷ []
  member_tokens (member k h t ms) = tokens t ++ (member_tokens ms ++ put_member k h ∷ [])

-- ---- and read back with stacks

record Stacks : Type 0 where
  trees : List Tree
  elements : List Elements
  members : List Members

abbrev push : Tree → Stacks → Stacks
push t s = record s { trees = t ∷ s.trees }

abbrev close_list : Bool → List Elements → Stacks → Stacks
close_list l [] s = s
close_list l (es ∷ rest) s = record { trees = ListOf l es ∷ s.trees; elements = rest; members = s.members }

abbrev close_record : List Members → Stacks → Stacks
close_record [] s = s
close_record (ms ∷ rest) s = record { trees = RecordOf ms ∷ s.trees; elements = s.elements; members = rest }

abbrev more_elements : Bool → List Tree → List Elements → Stacks → Stacks
more_elements h (t ∷ ts) (es ∷ rest) s =
    record { trees = ts; elements = element h t es ∷ rest; members = s.members }
more_elements h _ _ s = s

abbrev more_members : List ℕ → Bool → List Tree → List Members → Stacks → Stacks
more_members k h (t ∷ ts) (ms ∷ rest) s =
    record { trees = ts; elements = s.elements; members = member k h t ms ∷ rest }
more_members k h _ _ s = s

abbrev step : Token → Stacks → Stacks
step (text b) s = push (Text b) s
step (integer z) s = push (Whole z) s
step (boolean b) s = push (Truth b) s
step null s = push Null s
step (bytes b) s = push (Bytes b) s
step other s = push Other s
step (list l) s = close_list l s.elements s
step fields s = close_record s.members s
step list_end s = record s { elements = no_elements ∷ s.elements }
step (put_element h) s = more_elements h s.trees s.elements s
step fields_end s = record s { members = no_members ∷ s.members }
step (put_member k h) s = more_members k h s.trees s.members s

abbrev run : List Token → Stacks → Stacks
run [] s = s
run (k ∷ ks) s = run ks (step k s)

mutual
  run_tokens : (t : Tree) (rest : List Token) (s : Stacks) → run (tokens t ++ rest) s ≡ run rest (push t s)
  run_tokens (Text b) rest s = refl
  run_tokens (Whole z) rest s = refl
  run_tokens (Truth b) rest s = refl
  run_tokens Null rest s = refl
  run_tokens (Bytes b) rest s = refl
  run_tokens Other rest s = refl
  run_tokens (ListOf l es) rest s =
      ap (λ ks. run ks s) (append_assoc (element_tokens es) (list l ∷ []) rest)
      ∙ run_elements es (list l ∷ rest) s
  run_tokens (RecordOf ms) rest s =
      ap (λ ks. run ks s) (append_assoc (member_tokens ms) (fields ∷ []) rest)
      ∙ run_members ms (fields ∷ rest) s

  run_elements : (es : Elements) (rest : List Token) (s : Stacks)
      → run (element_tokens es ++ rest) s ≡ run rest (record s { elements = es ∷ s.elements })
  run_elements no_elements rest s = refl
  run_elements (element h t es) rest s =
      ap (λ ks. run ks s) (append_assoc (tokens t) (element_tokens es ++ put_element h ∷ []) rest)
      ∙ run_tokens t ((element_tokens es ++ put_element h ∷ []) ++ rest) s
      ∙ ap (λ ks. run ks (push t s)) (append_assoc (element_tokens es) (put_element h ∷ []) rest)
      ∙ run_elements es (put_element h ∷ rest) (push t s)

  run_members : (ms : Members) (rest : List Token) (s : Stacks)
      → run (member_tokens ms ++ rest) s ≡ run rest (record s { members = ms ∷ s.members })
  run_members no_members rest s = refl
  run_members (member k h t ms) rest s =
      ap (λ ks. run ks s) (append_assoc (tokens t) (member_tokens ms ++ put_member k h ∷ []) rest)
      ∙ run_tokens t ((member_tokens ms ++ put_member k h ∷ []) ++ rest) s
      ∙ ap (λ ks. run ks (push t s)) (append_assoc (member_tokens ms) (put_member k h ∷ []) rest)
      ∙ run_members ms (put_member k h ∷ rest) (push t s)

abbrev top : List Tree → Tree
top [] = Null
top (t ∷ ts) = t

abbrev none : Stacks
none = record { trees = []; elements = []; members = [] }

abbrev tree_from : List Token → Tree
tree_from ks = top (run ks none).trees

given_back : (t : Tree) → tree_from (tokens t) ≡ t
given_back t =
    ap tree_from (sym (append-nil (tokens t)))
    ∙ ap (λ (s : Stacks). top s.trees) (run_tokens t [] none)

-- ---- codes

token_code : Coded Token
token_code = hlevel codes

pub tree_code : Coded Tree
tree_code = code_by (List Token) (coded_list token_code) tokens tree_from given_back

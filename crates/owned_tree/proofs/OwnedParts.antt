-- The parts of the claim tree that an owned tree is, level by level.
use Rattle.std.proofs.Common.{◌≡◌, ℕ, ◌<◌, Bool, true, List, [], ◌∷◌, length, map, Some, option_map, get_or}
use Rattle.std.proofs.Common.{Vec, Global, string_bytes, refl, sym, ap, ◌∙◌, rules, arith}
use Rattle.std.specs.List.{slice_get}
use Rattle.std.proofs.Math.ListN.{length-map}
use Rattle.std.proofs.lemmas.Bool.{and_parts}
use Rattle.std.proofs.lemmas.Option.{slice_get-map, slice_get_read}
use Rattle.claim_tree.specs.Tree.{Name, Tree, ListOf, RecordOf, parts, marks, names, element_trees}
use Rattle.claim_tree.specs.Tree.{element_marks, member_trees, member_marks, member_names, member_at}
use Rattle.claim_tree.specs.Tree.{part_named, ascend, is_claim, hold_claims}
use Rattle.owned_tree.specs.Owned.{tree_of, part_of, named_of}
use Rattle.claim_tree.specs.Parts.{elements_of, members_of}
use Rattle.claim_tree.specs.Ascending.{names_of}
use Rattle.owned_tree.specs.declared.owned.OwnedElement.{OwnedElement}
use Rattle.owned_tree.specs.declared.owned.OwnedMember.{OwnedMember}
use Rattle.owned_tree.specs.declared.owned.OwnedTree.{OwnedTree, List as OwnedList, Record as OwnedRecord}
use Rattle.owned_tree.specs.declared.owned.OwnedTree.{the_lemmas}

pub tree_of-List : (loose : Bool) (v : Vec OwnedElement Global)
    → tree_of (OwnedList loose v) ≡ ListOf loose (elements_of (map part_of v.items))
tree_of-List loose v = search (rules, the_lemmas)

pub tree_of-Record : (v : Vec OwnedMember Global)
    → tree_of (OwnedRecord v) ≡ RecordOf (members_of (map named_of v.items))
tree_of-Record v = search (rules, the_lemmas)

abbrev pub element_tree : OwnedElement → Tree
element_tree e = tree_of e.tree

abbrev pub member_tree : OwnedMember → Tree
member_tree m = tree_of m.tree

abbrev pub member_name : OwnedMember → Name
member_name m = string_bytes m.name

trees_of_elements : (es : List OwnedElement)
    → element_trees (elements_of (map part_of es)) ≡ map element_tree es
trees_of_elements [] = refl
trees_of_elements (e ∷ es) = ap (λ ts. element_tree e ∷ ts) (trees_of_elements es)

marks_of_elements : (es : List OwnedElement)
    → element_marks (elements_of (map part_of es)) ≡ map (λ e. e.held) es
marks_of_elements [] = refl
marks_of_elements (e ∷ es) = ap (λ hs. e.held ∷ hs) (marks_of_elements es)

trees_of_members : (ms : List OwnedMember) → member_trees (members_of (map named_of ms)) ≡ map member_tree ms
trees_of_members [] = refl
trees_of_members (m ∷ ms) = ap (λ ts. member_tree m ∷ ts) (trees_of_members ms)

marks_of_members : (ms : List OwnedMember)
    → member_marks (members_of (map named_of ms)) ≡ map (λ m. m.held) ms
marks_of_members [] = refl
marks_of_members (m ∷ ms) = ap (λ hs. m.held ∷ hs) (marks_of_members ms)

names_of_members : (ms : List OwnedMember) → member_names (members_of (map named_of ms)) ≡ map member_name ms
names_of_members [] = refl
names_of_members (m ∷ ms) = ap (λ ks. member_name m ∷ ks) (names_of_members ms)

pub parts-List : (w : OwnedTree) (loose : Bool) (v : Vec OwnedElement Global) → w ≡ OwnedList loose v
    → parts (tree_of w) ≡ map element_tree v.items
parts-List w loose v e = ap (λ n. parts (tree_of n)) e ∙ ap parts (tree_of-List loose v)
    ∙ trees_of_elements v.items

pub marks-List : (w : OwnedTree) (loose : Bool) (v : Vec OwnedElement Global) → w ≡ OwnedList loose v
    → marks (tree_of w) ≡ map (λ x. x.held) v.items
marks-List w loose v e = ap (λ n. marks (tree_of n)) e ∙ ap marks (tree_of-List loose v)
    ∙ marks_of_elements v.items

pub parts-Record : (w : OwnedTree) (v : Vec OwnedMember Global) → w ≡ OwnedRecord v
    → parts (tree_of w) ≡ map member_tree v.items
parts-Record w v e = ap (λ n. parts (tree_of n)) e ∙ ap parts (tree_of-Record v) ∙ trees_of_members v.items

pub marks-Record : (w : OwnedTree) (v : Vec OwnedMember Global) → w ≡ OwnedRecord v
    → marks (tree_of w) ≡ map (λ x. x.held) v.items
marks-Record w v e = ap (λ n. marks (tree_of n)) e ∙ ap marks (tree_of-Record v) ∙ marks_of_members v.items

pub names-Record : (w : OwnedTree) (v : Vec OwnedMember Global) → w ≡ OwnedRecord v
    → names (tree_of w) ≡ map member_name v.items
names-Record w v e = ap (λ n. names (tree_of n)) e ∙ ap names (tree_of-Record v) ∙ names_of_members v.items

pub part_named-Record : (w : OwnedTree) (v : Vec OwnedMember Global) (k : Name) → w ≡ OwnedRecord v
    → part_named k (tree_of w) ≡ member_at k (members_of (map named_of v.items))
part_named-Record w v k e = ap (λ n. part_named k (tree_of n)) e ∙ ap (part_named k) (tree_of-Record v)

-- the names of a record that is a claim ascend
pub ascend-Record : (w : OwnedTree) (v : Vec OwnedMember Global) → w ≡ OwnedRecord v
    → is_claim (tree_of w) ≡ true → ascend (names_of (map named_of v.items)) ≡ true
ascend-Record w v e h =
    (and_parts (ascend (names_of (map named_of v.items))) (hold_claims (members_of (map named_of v.items)))
    (sym (ap (λ n. is_claim (tree_of n)) e ∙ ap is_claim (tree_of-Record v)) ∙ h)).0

-- a place that is one of the parts is one of the list that they come from
pub within_list : {A B : Type 0} (ts : List B) (f : A → B) (xs : List A) (i : ℕ) → ts ≡ map f xs
    → i < length ts → i < length xs
within_list ts f xs i e h = omega (arith, ap length e, length-map xs f)

-- and stands there
pub at_list : {A B : Type 0} (ts : List B) (f : A → B) (xs : List A) (i : ℕ) (x : A) → ts ≡ map f xs
    → i < length xs → x ≡ get_or xs i x → slice_get ts i ≡ Some (f x)
at_list ts f xs i x e h is = ap (λ ys. slice_get ys i) e ∙ slice_get-map f xs i
    ∙ ap (option_map f) (slice_get_read xs (length xs) i x refl h is)

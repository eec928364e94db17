-- What a value spells, step by step.
use Rattle.std.proofs.Common.{◌≡◌, ◌≤◌, ◌<◌, ℕ, suc, ◌-◌, Bool, false, List, [], ◌∷◌, ◌++◌, length, map, drop}
use Rattle.std.proofs.Common.{Option, Some, None, option_map, Vec, Global, BTreeMap, String, refl, sym, ap}
use Rattle.std.proofs.Common.{◌∙◌, arith, append_assoc, append-nil}
use Rattle.std.proofs.lemmas.List.{drop_all}
use Rattle.serde_json.specs.Data.{Data, array, object, Items, Members as Fields, member as field}
use Rattle.serde_json.specs.View.{view, items_view, members_view}
use Rattle.serde_json.specs.declared.value.Value.{Value, Array, Object}
use Rattle.serde_json.proofs.Views.{view-Array, view-Object}
use Rattle.claim_tree.specs.Tree.{Tree, ListOf}
use Rattle.base_forms.specs.Texts.{Utf8, is_among}
use Rattle.sdjwt_digests.specs.Disclosures.{Disclosed}
use Rattle.owned_tree.specs.Owned.{tree_of, part_of}
use Rattle.owned_tree.specs.Prefixed.{prefixed}
use Rattle.claim_tree.specs.Parts.{Named, elements_of}
use Rattle.sdjwt_disclosures.specs.DisclosedTree.{has_placeholder, left_out, spelled, spelled_list}
use Rattle.sdjwt_disclosures.specs.DisclosedTree.{spelled_record}
use Rattle.sdjwt_disclosures.specs.DisclosedTree.{spelled_elements, plain_members}
use Rattle.owned_tree.specs.declared.owned.OwnedElement.{OwnedElement}
use Rattle.owned_tree.specs.declared.owned.OwnedTree.{List as OwnedList}
use Rattle.owned_tree.proofs.OwnedParts.{tree_of-List}

one_more_list : (n m : ℕ) (ls : List Disclosed) (ds : Items) → n ≡ suc m
    → spelled n ls (array ds) ≡ spelled_list (spelled m ls) ls ds
one_more_list n m ls ds e = rw e refl

one_more_record : (n m : ℕ) (ls : List Disclosed) (ms : Fields) → n ≡ suc m
    → spelled n ls (object ms) ≡ spelled_record false (spelled m ls) ls ms
one_more_record n m ls ms e = rw e refl

pub spelled-list : (n : ℕ) (ls : List Disclosed) (v : Value) (list : Vec Value Global) → v ≡ Array list
    → 0 < n → spelled_list (spelled (n - 1) ls) ls (items_view list.items) ≡ spelled n ls (view v)
spelled-list n ls v list is h =
    let e : n ≡ suc (n - 1) = omega arith in
    sym (ap (λ w. spelled n ls (view w)) is ∙ ap (spelled n ls) (view-Array list)
    ∙ one_more_list n (n - 1) ls (items_view list.items) e)

pub spelled-record : (n : ℕ) (ls : List Disclosed) (v : Value) (m : BTreeMap (String Global) Value)
    → v ≡ Object m → 0 < n
    → spelled_record false (spelled (n - 1) ls) ls (members_view m.entries) ≡ spelled n ls (view v)
spelled-record n ls v m is h =
    let e : n ≡ suc (n - 1) = omega arith in
    sym (ap (λ w. spelled n ls (view w)) is ∙ ap (spelled n ls) (view-Object m)
    ∙ one_more_record n (n - 1) ls (members_view m.entries) e)

pub list_done : (loose : Bool) (v : Vec OwnedElement Global) (inner : Data → Option Tree)
    (ls : List Disclosed) (items : List Value) (i : ℕ)
    → prefixed (map part_of v.items) (spelled_elements inner ls (items_view (drop i items)))
    ≡ spelled_elements inner ls (items_view items) → length items ≤ i
    → loose ≡ has_placeholder (items_view items)
    → Some (tree_of (OwnedList loose v)) ≡ spelled_list inner ls (items_view items)
list_done loose v inner ls items i invariant end is =
    let none = drop_all i items end in
    let all : spelled_elements inner ls (items_view items) ≡ Some (map part_of v.items) =
    sym invariant ∙ ap (λ rest. prefixed (map part_of v.items) (spelled_elements inner ls (items_view rest)))
    none ∙ ap Some (append-nil (map part_of v.items)) in
    ap Some (tree_of-List loose v ∙ ap (λ l. ListOf l (elements_of (map part_of v.items))) is)
    ∙ sym (ap (option_map (λ es. ListOf (has_placeholder (items_view items)) (elements_of es))) all)

prefixed_one_more : {A : Type 0} (xs : List A) (x : A) (o : Option (List A))
    → prefixed xs (option_map (λ ys. x ∷ ys) o) ≡ prefixed (xs ++ x ∷ []) o
prefixed_one_more xs x None = refl
prefixed_one_more xs x (Some ys) = ap Some (sym (append_assoc xs (x ∷ []) ys))

pub plain_step : (xs : List Named) (is_payload : Bool) (inner : Data → Option Tree) (k : Utf8) (d : Data)
    (rest : Fields) (t : Tree) → is_among k (left_out is_payload) ≡ false → inner d ≡ Some t
    → prefixed (xs ++ (k, false, t) ∷ []) (plain_members is_payload inner rest) ≡ prefixed xs
    (plain_members is_payload inner (field k d rest))
plain_step xs is_payload inner k d rest t kept is =
    rw (kept, is) (sym (prefixed_one_more xs (k, false, t) (plain_members is_payload inner rest)))

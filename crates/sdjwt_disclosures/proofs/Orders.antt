-- The names of the plain members that an object spells ascend.
use Rattle.std.proofs.Common.{◌≡◌, Bool, true, false, cond, List, [], ◌∷◌, map, Option, Some, None}
use Rattle.std.proofs.Common.{option_map, option_and_then, String, BTreeMap, Global, Less, string_bytes, refl}
use Rattle.std.proofs.Common.{sym, ap, ◌∙◌, subst, append-nil}
use Rattle.std.specs.Prelude.{IfSome}
use Rattle.std.specs.List.{list_all, AllByRecursion}
use Rattle.std.specs.List.Sorted.{IsStrictlySortedBy}
use Rattle.std.specs.BTreeMap.{IsOrdered}
use Rattle.std.specs.Ordering.{is_lt}
use Rattle.std.specs.String.{string_cmp}
use Rattle.std.proofs.lemmas.Bool.{and_parts, and_from}
use Rattle.serde_json.specs.Data.{Data, Members as Fields, no_members as no_fields, member as field}
use Rattle.serde_json.specs.View.{members_view}
use Rattle.serde_json.specs.declared.value.Value.{Value}
use Rattle.serde_json.proofs.Views.{Entry}
use Rattle.claim_tree.specs.Tree.{Name, Tree, member_names, ascend}
use Rattle.claim_tree.specs.Plain.{plain_members as plain_fields}
use Rattle.claim_tree.specs.Parts.{Named}
use Rattle.claim_tree.specs.Ascending.{names_of, below}
use Rattle.base_forms.specs.Texts.{is_among}
use Rattle.owned_tree.specs.Prefixed.{prefixed}
use Rattle.sdjwt_disclosures.specs.DisclosedTree.{left_out, plain_members}

abbrev field_names : Fields → List Name
field_names ms = member_names (plain_fields ms)

-- ---- the names of an object in memory

above_first : (k : String Global) (es : List Entry)
    → AllByRecursion (λ y. string_cmp k y ≡ Less) (map (λ e. e.0) es)
    → list_all (below (string_bytes k)) (field_names (members_view es)) ≡ true
above_first k [] h = refl
above_first k (e ∷ es) h =
    and_from (below (string_bytes k) (string_bytes e.0))
    (list_all (below (string_bytes k)) (field_names (members_view es))) (ap is_lt h.0) (above_first k es h.1)

entries_ascend : (es : List Entry) → IsStrictlySortedBy string_cmp (map (λ e. e.0) es)
    → ascend (field_names (members_view es)) ≡ true
unfolding IsStrictlySortedBy
entries_ascend [] h = refl
entries_ascend (e ∷ es) h =
    and_from (list_all (below (string_bytes e.0)) (field_names (members_view es)))
    (ascend (field_names (members_view es))) (above_first e.0 es h.0) (entries_ascend es h.1)

-- ---- the names of the members that it spells are among them, in their order

abbrev AreWithin : Fields → List Named → Type 0
AreWithin ms ns = ((p : Name → Bool) → list_all p (field_names ms) ≡ true → list_all p (names_of ns) ≡ true)
    × (ascend (names_of ns) ≡ true)

kept : (k : Name) (d : Data) (ms : Fields) (ns : List Named) (t : Tree)
    → list_all (below k) (field_names ms) ≡ true → AreWithin ms ns
    → AreWithin (field k d ms) ((k, false, t) ∷ ns)
kept k d ms ns t first h = (
  λ p all. let both =
      and_parts (p k) (list_all p (field_names ms)) all in and_from (p k) (list_all p (names_of ns)) both.0
      (h.0 p both.1),
  and_from (list_all (below k) (names_of ns)) (ascend (names_of ns)) (h.0 (below k) first) h.1,
)

left : (k : Name) (d : Data) (ms : Fields) (o : Option (List Named)) → IfSome o (AreWithin ms)
    → IfSome o (AreWithin (field k d ms))
left k d ms None h = tt
left k d ms (Some ns) h = (λ p all. h.0 p (and_parts (p k) (list_all p (field_names ms)) all).1, h.1)

spelled : (k : Name) (d : Data) (ms : Fields) (t : Option Tree) (o : Option (List Named))
    → list_all (below k) (field_names ms) ≡ true → IfSome o (AreWithin ms)
    → IfSome (option_and_then (λ u. option_map (λ ns. (k, false, u) ∷ ns) o) t) (AreWithin (field k d ms))
spelled k d ms None o first h = tt
spelled k d ms (Some t) None first h = tt
spelled k d ms (Some t) (Some ns) first h = kept k d ms ns t first h

either : (b : Bool) (k : Name) (d : Data) (ms : Fields) (t : Option Tree) (o : Option (List Named))
    → list_all (below k) (field_names ms) ≡ true → IfSome o (AreWithin ms)
    → IfSome (cond b o (option_and_then (λ u. option_map (λ ns. (k, false, u) ∷ ns) o) t))
    (AreWithin (field k d ms))
either true k d ms t o first h = left k d ms o h
either false k d ms t o first h = spelled k d ms t o first h

within : (is_payload : Bool) (inner : Data → Option Tree) (ms : Fields) → ascend (field_names ms) ≡ true
    → IfSome (plain_members is_payload inner ms) (AreWithin ms)
within is_payload inner no_fields up = (λ p _. refl, refl)
within is_payload inner (field k d ms) up =
    let both = and_parts (list_all (below k) (field_names ms)) (ascend (field_names ms)) up in
    either (is_among k (left_out is_payload)) k d ms (inner d) (plain_members is_payload inner ms) both.0
    (within is_payload inner ms both.1)

-- so they ascend once all of the object is read
pub plain_ascend : (is_payload : Bool) (inner : Data → Option Tree) (m : BTreeMap (String Global) Value)
    (ns : List Named) (rest : List Entry) → IsOrdered string_cmp m
    → prefixed ns (plain_members is_payload inner (members_view rest)) ≡ plain_members is_payload inner
    (members_view m.entries) → rest ≡ [] → ascend (names_of ns) ≡ true
plain_ascend is_payload inner m ns rest order invariant end =
    let all : plain_members is_payload inner (members_view m.entries) ≡ Some ns =
    sym invariant ∙ ap (λ es. prefixed ns (plain_members is_payload inner (members_view es))) end
    ∙ ap Some (append-nil ns) in
    (subst (λ o. IfSome o (AreWithin (members_view m.entries))) all
    (within is_payload inner (members_view m.entries) (entries_ascend m.entries order))).1

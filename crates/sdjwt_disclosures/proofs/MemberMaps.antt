-- Members that come to a table in the order of their names.
use Rattle.std.proofs.Common.{◌≡◌, Bool, true, false, List, [], ◌∷◌, ◌++◌, Some, cond, Ordering, Less, Equal}
use Rattle.std.proofs.Common.{Greater, String, Global, string_bytes, nat_cmp, refl, ap, ◌∙◌}
use Rattle.std.specs.List.{list_all}
use Rattle.std.specs.Option.{is_some}
use Rattle.std.specs.Map.{lookup}
use Rattle.std.specs.BTreeMap.{insert_entry, is_at}
use Rattle.std.specs.String.{string_cmp}
use Rattle.std.specs.Ordering.{match_ordering, is_lt, is_eq}
use Rattle.std.specs.Cmp.Lexicographic.{slice_cmp}
use Rattle.std.proofs.lemmas.Bool.{and_parts}
use Rattle.std.proofs.lemmas.Cmp.{nat_list_cmp_total}
use Rattle.std.specs.Ordering.{ordering_reverse}
use Rattle.claim_tree.specs.Tree.{Name, Tree, ascend}
use Rattle.claim_tree.specs.Parts.{Named}
use Rattle.sdjwt_disclosures.specs.PutMember.{put_member}
use Rattle.owned_tree.specs.Owned.{tree_of}
use Rattle.claim_tree.specs.Ascending.{names_of, below}
use Rattle.owned_tree.specs.declared.owned.OwnedElement.{OwnedElement}
use Rattle.claim_tree.proofs.Ascending.{all_below, is_less}
use Rattle.sdjwt_disclosures.specs.code.MemberMap.{members_in}

abbrev pub Entry : Type 0
Entry = String Global × OwnedElement

abbrev named : Entry → Named
named e = (string_bytes e.0, e.1.held, tree_of e.1.tree)

abbrev pub at : String Global → String Global → Bool
at k = is_at (string_cmp k)

abbrev pub there : String Global → List Entry → Bool
there k es = is_some (lookup (at k) es)

-- ---- a name that is not there

absent_at : (o : Ordering) (e : Entry) (es : List Entry) (k : String Global) (v : OwnedElement)
    → is_some (cond (is_eq o) (Some e.1) (lookup (at k) es)) ≡ false
    → (there k es ≡ false → members_in (insert_entry string_cmp es k v) ≡ put_member (named (k, v))
    (members_in es))
    → members_in (match_ordering o ((k, v) ∷ e ∷ es) ((e.0, v) ∷ es) (e ∷ insert_entry string_cmp es k v))
    ≡ match_ordering o (named (k, v) ∷ named e ∷ members_in es) (named e ∷ members_in es)
    (named e ∷ put_member (named (k, v)) (members_in es))
absent_at Less e es k v h later = refl
absent_at Equal e es k v h later = cc
absent_at Greater e es k v h later = ap (λ ms. named e ∷ ms) (later h)

pub absent : (es : List Entry) (k : String Global) (v : OwnedElement) → there k es ≡ false
    → members_in (insert_entry string_cmp es k v) ≡ put_member (named (k, v)) (members_in es)
absent [] k v h = refl
absent (e ∷ es) k v h = absent_at (string_cmp k e.0) e es k v h (absent es k v)

-- ---- a name that is there

not_equal : (o : Ordering) → is_lt o ≡ true → is_eq o ≡ false
not_equal Less e = refl
not_equal Equal e = cc
not_equal Greater e = cc

none_below : (es : List Entry) (k : String Global)
    → list_all (below (string_bytes k)) (names_of (members_in es)) ≡ true → there k es ≡ false
none_below [] k h = refl
none_below (e ∷ es) k h =
    let both = and_parts (below (string_bytes k) (string_bytes e.0))
    (list_all (below (string_bytes k)) (names_of (members_in es))) h in
    ap (λ b. is_some (cond b (Some e.1) (lookup (at k) es))) (not_equal (string_cmp k e.0) both.0)
    ∙ none_below es k both.1

present_at : (o : Ordering) (e : Entry) (es : List Entry) (k : String Global) (held : Bool) (t : Tree)
    → (o ≡ Less → there k es ≡ false) → is_some (cond (is_eq o) (Some e.1) (lookup (at k) es)) ≡ true
    → (there k es ≡ true → put_member ((string_bytes k, held, t)) (members_in es) ≡ members_in es)
    → match_ordering o ((string_bytes k, held, t) ∷ named e ∷ members_in es) (named e ∷ members_in es)
    (named e ∷ put_member ((string_bytes k, held, t)) (members_in es)) ≡ named e ∷ members_in es
present_at Less e es k held t none h later = let n = none refl in cc
present_at Equal e es k held t none h later = refl
present_at Greater e es k held t none h later = ap (λ ms. named e ∷ ms) (later h)

pub present : (es : List Entry) (k : String Global) (held : Bool) (t : Tree)
    → ascend (names_of (members_in es)) ≡ true → there k es ≡ true
    → put_member ((string_bytes k, held, t)) (members_in es) ≡ members_in es
present [] k held t up h = cc
present (e ∷ es) k held t up h =
    let both = and_parts (list_all (below (string_bytes e.0)) (names_of (members_in es)))
    (ascend (names_of (members_in es))) up in
    present_at (string_cmp k e.0) e es k held t
    (λ less. none_below es k
    (all_below (string_bytes k) (string_bytes e.0) (names_of (members_in es)) less both.0)) h
    (present es k held t both.1)

-- ---- a name above all that are there

first_below : (p : Name → Bool) (xs : List Named) (m : Named) (ys : List Named)
    → list_all p (names_of (xs ++ m ∷ ys)) ≡ true → p m.0 ≡ true
first_below p [] m ys h = (and_parts (p m.0) (list_all p (names_of ys)) h).0
first_below p (x ∷ xs) m ys h =
    first_below p xs m ys (and_parts (p x.0) (list_all p (names_of (xs ++ m ∷ ys))) h).1

greater : (k l : Name) → below l k ≡ true → slice_cmp nat_cmp k l ≡ Greater
greater k l h = nat_list_cmp_total.antisymm k l ∙ ap ordering_reverse (is_less (slice_cmp nat_cmp l k) h)

pub put_last : (xs : List Named) (m : Named) (ys : List Named) → ascend (names_of (xs ++ m ∷ ys)) ≡ true
    → put_member m xs ≡ xs ++ m ∷ []
put_last [] m ys h = refl
put_last (x ∷ xs) m ys h =
    let both = and_parts (list_all (below x.0) (names_of (xs ++ m ∷ ys)))
    (ascend (names_of (xs ++ m ∷ ys))) h in
    let after = greater m.0 x.0 (first_below (below x.0) xs m ys both.0) in
    ap (λ o. match_ordering o (m ∷ x ∷ xs) (x ∷ xs) (x ∷ put_member m xs)) after
    ∙ ap (λ ms. x ∷ ms) (put_last xs m ys both.1)

-- Members that come by digests, put in among those that stay.
use Rattle.std.proofs.Common.{◌≡◌, Bool, true, false, not, cond, List, [], ◌∷◌, Ordering, Less, Equal}
use Rattle.std.proofs.Common.{Greater, nat_cmp, refl, sym, ap, ◌∙◌}
use Rattle.std.specs.List.{list_all}
use Rattle.std.specs.Ordering.{is_lt, is_eq, match_ordering, ordering_reverse}
use Rattle.std.specs.Cmp.Lexicographic.{slice_cmp}
use Rattle.std.specs.Str.{bytes_eq}
use Rattle.std.proofs.lemmas.Bool.{and_parts, and_from, or_from}
use Rattle.std.proofs.lemmas.Cmp.{nat_list_cmp_total}
use Rattle.std.proofs.lemmas.Map.Text.{is_eq-slice_cmp}
use Rattle.claim_tree.specs.Tree.{Name, ascend}
use Rattle.claim_tree.specs.Parts.{Named}
use Rattle.sdjwt_disclosures.specs.PutMember.{put_member}
use Rattle.claim_tree.specs.Ascending.{names_of, below}
use Rattle.claim_tree.proofs.Ascending.{is_less}
use Rattle.base_forms.specs.Texts.{is_among, differ}
use Rattle.base_forms.proofs.Differing.{bytes_eq-flip}
use Rattle.sdjwt_disclosures.specs.Spelling.{put_members}

-- the members that are held, and those that are not
abbrev pub held_of : List Named → List Named
held_of [] = []
held_of (n ∷ ns) = cond n.1 (n ∷ held_of ns) (held_of ns)

abbrev pub staying_of : List Named → List Named
staying_of [] = []
staying_of (n ∷ ns) = cond n.1 (staying_of ns) (n ∷ staying_of ns)

-- ---- orders

reversed : (k l : Name) (o : Ordering) → slice_cmp nat_cmp k l ≡ o
    → slice_cmp nat_cmp l k ≡ ordering_reverse o
reversed k l o e = nat_list_cmp_total.antisymm l k ∙ ap ordering_reverse e

later : (k l : Name) → slice_cmp nat_cmp l k ≡ Greater → slice_cmp nat_cmp k l ≡ Less
later k l e = reversed l k Greater e

-- ---- one member

front_at : (n l : Named) (ls : List Named) → slice_cmp nat_cmp n.0 l.0 ≡ Less → put_member n (l ∷ ls) ≡ n ∷ l
    ∷ ls
front_at n l ls e = ap (λ o. match_ordering o (n ∷ l ∷ ls) (l ∷ ls) (l ∷ put_member n ls)) e

there_at : (n l : Named) (ls : List Named) → slice_cmp nat_cmp n.0 l.0 ≡ Equal → put_member n (l ∷ ls) ≡ l
    ∷ ls
there_at n l ls e = ap (λ o. match_ordering o (n ∷ l ∷ ls) (l ∷ ls) (l ∷ put_member n ls)) e

past_at : (n l : Named) (ls : List Named) → slice_cmp nat_cmp n.0 l.0 ≡ Greater → put_member n (l ∷ ls) ≡ l
    ∷ put_member n ls
past_at n l ls e = ap (λ o. match_ordering o (n ∷ l ∷ ls) (l ∷ ls) (l ∷ put_member n ls)) e

put_before : (n : Named) (ls : List Named) → list_all (below n.0) (names_of ls) ≡ true → put_member n ls ≡ n
    ∷ ls
put_before n [] h = refl
put_before n (l ∷ ls) h = front_at n l ls
    (is_less (slice_cmp nat_cmp n.0 l.0) (and_parts (below n.0 l.0) (list_all (below n.0) (names_of ls)) h).0)

-- ---- all of them

put_past : (n : Named) (hs ls : List Named) → list_all (below n.0) (names_of hs) ≡ true
    → put_members hs (n ∷ ls) ≡ n ∷ put_members hs ls
put_past n [] ls h = refl
put_past n (m ∷ hs) ls h =
    let both = and_parts (below n.0 m.0) (list_all (below n.0) (names_of hs)) h in
    let greater : slice_cmp nat_cmp m.0 n.0 ≡ Greater =
    reversed n.0 m.0 Less (is_less (slice_cmp nat_cmp n.0 m.0) both.0) in
    ap (put_members hs) (past_at m n ls greater) ∙ put_past n hs (put_member m ls) both.1

pub held_all : (p : Name → Bool) (ns : List Named) → list_all p (names_of ns) ≡ true
    → list_all p (names_of (held_of ns)) ≡ true
held_all p [] h = refl
held_all p ((k, true, t) ∷ ns) h = let both = and_parts (p k) (list_all p (names_of ns)) h in
    and_from (p k) (list_all p (names_of (held_of ns))) both.0 (held_all p ns both.1)
held_all p ((k, false, t) ∷ ns) h = held_all p ns (and_parts (p k) (list_all p (names_of ns)) h).1

staying_all : (p : Name → Bool) (ns : List Named) → list_all p (names_of ns) ≡ true
    → list_all p (names_of (staying_of ns)) ≡ true
staying_all p [] h = refl
staying_all p ((k, false, t) ∷ ns) h = let both = and_parts (p k) (list_all p (names_of ns)) h in
    and_from (p k) (list_all p (names_of (staying_of ns))) both.0 (staying_all p ns both.1)
staying_all p ((k, true, t) ∷ ns) h = staying_all p ns (and_parts (p k) (list_all p (names_of ns)) h).1

-- members that ascend are had again from those that are held and those that stay
pub rejoined : (ns : List Named) → ascend (names_of ns) ≡ true → ns ≡ put_members (held_of ns) (staying_of ns)
rejoined [] h = refl
rejoined ((k, true, t) ∷ ns) h =
    let both = and_parts (list_all (below k) (names_of ns)) (ascend (names_of ns)) h in
    sym (ap (put_members (held_of ns))
    (put_before (k, true, t) (staying_of ns) (staying_all (below k) ns both.0))
    ∙ put_past (k, true, t) (held_of ns) (staying_of ns) (held_all (below k) ns both.0)
    ∙ ap (λ ls. (k, true, t) ∷ ls) (sym (rejoined ns both.1)))
rejoined ((k, false, t) ∷ ns) h =
    let both = and_parts (list_all (below k) (names_of ns)) (ascend (names_of ns)) h in
    sym (put_past (k, false, t) (held_of ns) (staying_of ns) (held_all (below k) ns both.0)
    ∙ ap (λ ls. (k, false, t) ∷ ls) (sym (rejoined ns both.1)))

-- ---- the order does not matter

front_of : (a b l : Named) (ls : List Named) (o : Ordering) → slice_cmp nat_cmp b.0 l.0 ≡ o
    → slice_cmp nat_cmp a.0 b.0 ≡ Less → slice_cmp nat_cmp a.0 l.0 ≡ Less
    → put_member a (put_member b (l ∷ ls)) ≡ a ∷ put_member b (l ∷ ls)
front_of a b l ls Less e p q = ap (put_member a) (front_at b l ls e) ∙ front_at a b (l ∷ ls) p
    ∙ ap (λ x. a ∷ x) (sym (front_at b l ls e))
front_of a b l ls Equal e p q = ap (put_member a) (there_at b l ls e) ∙ front_at a l ls q
    ∙ ap (λ x. a ∷ x) (sym (there_at b l ls e))
front_of a b l ls Greater e p q = ap (put_member a) (past_at b l ls e) ∙ front_at a l (put_member b ls) q
    ∙ ap (λ x. a ∷ x) (sym (past_at b l ls e))

mid_at : (o : Ordering) (a b l : Named) (ls : List Named) → slice_cmp nat_cmp a.0 l.0 ≡ o
    → slice_cmp nat_cmp a.0 b.0 ≡ Less → put_member a (put_member b ls) ≡ put_member b (put_member a ls)
    → put_member a (put_member b (l ∷ ls)) ≡ put_member b (put_member a (l ∷ ls))
mid_at Less a b l ls e p next =
    front_of a b l ls (slice_cmp nat_cmp b.0 l.0) refl p e
    ∙ sym (ap (put_member b) (front_at a l ls e) ∙ past_at b a (l ∷ ls) (reversed a.0 b.0 Less p))
mid_at Equal a b l ls e p next =
    let up : slice_cmp nat_cmp b.0 l.0 ≡ Greater =
    reversed l.0 b.0 Less (sym (nat_list_cmp_total.congr a.0 l.0 b.0 e) ∙ p) in
    ap (put_member a) (past_at b l ls up) ∙ there_at a l (put_member b ls) e
    ∙ sym (ap (put_member b) (there_at a l ls e) ∙ past_at b l ls up)
mid_at Greater a b l ls e p next =
    let up : slice_cmp nat_cmp b.0 l.0 ≡ Greater =
    reversed l.0 b.0 Less (nat_list_cmp_total.trans l.0 a.0 b.0 (later l.0 a.0 e) p) in
    ap (put_member a) (past_at b l ls up) ∙ past_at a l (put_member b ls) e ∙ ap (λ x. l ∷ x) next
    ∙ sym (ap (put_member b) (past_at a l ls e) ∙ past_at b l (put_member a ls) up)

lesser_first : (a b : Named) (ls : List Named) → slice_cmp nat_cmp a.0 b.0 ≡ Less
    → put_member a (put_member b ls) ≡ put_member b (put_member a ls)
lesser_first a b [] p = front_at a b [] p ∙ sym (past_at b a [] (reversed a.0 b.0 Less p))
lesser_first a b (l ∷ ls) p = mid_at (slice_cmp nat_cmp a.0 l.0) a b l ls refl p (lesser_first a b ls p)

swapped_at : (o : Ordering) (a b : Named) (ls : List Named) → slice_cmp nat_cmp a.0 b.0 ≡ o → is_eq o ≡ false
    → put_member a (put_member b ls) ≡ put_member b (put_member a ls)
swapped_at Less a b ls e apart = lesser_first a b ls e
swapped_at Equal a b ls e apart = cc apart
swapped_at Greater a b ls e apart = sym (lesser_first b a ls (later b.0 a.0 e))

-- members of different names may be put in in either order
pub swapped : (a b : Named) (ls : List Named) → bytes_eq a.0 b.0 ≡ false
    → put_member a (put_member b ls) ≡ put_member b (put_member a ls)
swapped a b ls apart = swapped_at (slice_cmp nat_cmp a.0 b.0) a b ls refl (is_eq-slice_cmp a.0 b.0 ∙ apart)

-- ---- names that ascend differ

pub less_apart : (o : Ordering) → is_lt o ≡ true → is_eq o ≡ false
less_apart Less e = refl
less_apart Equal e = cc
less_apart Greater e = cc

pub not_among : (k : Name) (ks : List Name) → list_all (below k) ks ≡ true → is_among k ks ≡ false
not_among k [] h = refl
not_among k (l ∷ ks) h =
    let both = and_parts (below k l) (list_all (below k) ks) h in
    or_from (bytes_eq l k) (is_among k ks) (bytes_eq-flip l k ∙ sym (is_eq-slice_cmp k l)
    ∙ less_apart (slice_cmp nat_cmp k l) both.0) (not_among k ks both.1)

pub ascend_differ : (ks : List Name) → ascend ks ≡ true → differ ks ≡ true
ascend_differ [] h = refl
ascend_differ (k ∷ ks) h =
    let both = and_parts (list_all (below k) ks) (ascend ks) h in
    and_from (not (is_among k ks)) (differ ks) (ap not (not_among k ks both.0)) (ascend_differ ks both.1)

pub held_ascend : (ns : List Named) → ascend (names_of ns) ≡ true → ascend (names_of (held_of ns)) ≡ true
held_ascend [] h = refl
held_ascend ((k, true, t) ∷ ns) h =
    let both = and_parts (list_all (below k) (names_of ns)) (ascend (names_of ns)) h in
    and_from (list_all (below k) (names_of (held_of ns))) (ascend (names_of (held_of ns)))
    (held_all (below k) ns both.0) (held_ascend ns both.1)
held_ascend ((k, false, t) ∷ ns) h =
    held_ascend ns (and_parts (list_all (below k) (names_of ns)) (ascend (names_of ns)) h).1

-- A member that is put in keeps the names ascending and the members claims.
use Rattle.std.proofs.Common.{◌≡◌, Bool, true, ◌&&◌, List, [], ◌∷◌, Ordering, Less, Equal, Greater, nat_cmp}
use Rattle.std.proofs.Common.{refl, ap}
use Rattle.std.specs.List.{list_all}
use Rattle.std.specs.Ordering.{match_ordering, is_lt}
use Rattle.std.specs.Cmp.Lexicographic.{slice_cmp}
use Rattle.std.proofs.lemmas.Bool.{and_parts, and_from}
use Rattle.claim_tree.specs.Tree.{Name, ascend, is_claim, hold_claims}
use Rattle.claim_tree.specs.Parts.{Named, members_of}
use Rattle.sdjwt_disclosures.specs.PutMember.{put_member}
use Rattle.claim_tree.specs.Ascending.{names_of, below}
use Rattle.claim_tree.proofs.Ascending.{all_below, above}

-- what is true of the name and of the names is true of them after it is put in
put_all_at : (o : Ordering) (p : Name → Bool) (m l : Named) (ls : List Named) → p m.0 ≡ true → p l.0 ≡ true
    → list_all p (names_of ls) ≡ true → list_all p (names_of (put_member m ls)) ≡ true
    → list_all p (names_of (match_ordering o (m ∷ l ∷ ls) (l ∷ ls) (l ∷ put_member m ls))) ≡ true
put_all_at Less p m l ls pm pl rest later =
    and_from (p m.0) (p l.0 && list_all p (names_of ls)) pm
    (and_from (p l.0) (list_all p (names_of ls)) pl rest)
put_all_at Equal p m l ls pm pl rest later = and_from (p l.0) (list_all p (names_of ls)) pl rest
put_all_at Greater p m l ls pm pl rest later =
    and_from (p l.0) (list_all p (names_of (put_member m ls))) pl later

pub put_all : (p : Name → Bool) (m : Named) (ls : List Named) → p m.0 ≡ true → list_all p (names_of ls) ≡ true
    → list_all p (names_of (put_member m ls)) ≡ true
put_all p m [] pm h = and_from (p m.0) true pm refl
put_all p m (l ∷ ls) pm h =
    let both = and_parts (p l.0) (list_all p (names_of ls)) h in
    put_all_at (slice_cmp nat_cmp m.0 l.0) p m l ls pm both.0 both.1 (put_all p m ls pm both.1)

ascend-put_at : (o : Ordering) (m l : Named) (ls : List Named) → slice_cmp nat_cmp m.0 l.0 ≡ o
    → list_all (below l.0) (names_of ls) ≡ true → ascend (names_of ls) ≡ true
    → ascend (names_of (put_member m ls)) ≡ true
    → ascend (names_of (match_ordering o (m ∷ l ∷ ls) (l ∷ ls) (l ∷ put_member m ls))) ≡ true
ascend-put_at Less m l ls is first rest later =
    and_from (below m.0 l.0 && list_all (below m.0) (names_of ls))
    (list_all (below l.0) (names_of ls) && ascend (names_of ls))
    (and_from (below m.0 l.0) (list_all (below m.0) (names_of ls)) (ap is_lt is)
    (all_below m.0 l.0 (names_of ls) is first))
    (and_from (list_all (below l.0) (names_of ls)) (ascend (names_of ls)) first rest)
ascend-put_at Equal m l ls is first rest later =
    and_from (list_all (below l.0) (names_of ls)) (ascend (names_of ls)) first rest
ascend-put_at Greater m l ls is first rest later =
    and_from (list_all (below l.0) (names_of (put_member m ls))) (ascend (names_of (put_member m ls)))
    (put_all (below l.0) m ls (above m.0 l.0 is) first) later

-- names still ascend
pub ascend-put : (m : Named) (ls : List Named) → ascend (names_of ls) ≡ true
    → ascend (names_of (put_member m ls)) ≡ true
ascend-put m [] h = refl
ascend-put m (l ∷ ls) h =
    let both = and_parts (list_all (below l.0) (names_of ls)) (ascend (names_of ls)) h in
    ascend-put_at (slice_cmp nat_cmp m.0 l.0) m l ls refl both.0 both.1 (ascend-put m ls both.1)

-- ---- members that are claims

hold-put_at : (o : Ordering) (m l : Named) (ls : List Named) → is_claim m.2 ≡ true → is_claim l.2 ≡ true
    → hold_claims (members_of ls) ≡ true → hold_claims (members_of (put_member m ls)) ≡ true
    → hold_claims (members_of (match_ordering o (m ∷ l ∷ ls) (l ∷ ls) (l ∷ put_member m ls))) ≡ true
hold-put_at Less m l ls p q rest later =
    and_from (is_claim m.2) (is_claim l.2 && hold_claims (members_of ls)) p
    (and_from (is_claim l.2) (hold_claims (members_of ls)) q rest)
hold-put_at Equal m l ls p q rest later = and_from (is_claim l.2) (hold_claims (members_of ls)) q rest
hold-put_at Greater m l ls p q rest later =
    and_from (is_claim l.2) (hold_claims (members_of (put_member m ls))) q later

pub hold-put : (m : Named) (ls : List Named) → is_claim m.2 ≡ true → hold_claims (members_of ls) ≡ true
    → hold_claims (members_of (put_member m ls)) ≡ true
hold-put m [] p h = and_from (is_claim m.2) true p refl
hold-put m (l ∷ ls) p h =
    let both = and_parts (is_claim l.2) (hold_claims (members_of ls)) h in
    hold-put_at (slice_cmp nat_cmp m.0 l.0) m l ls p both.0 both.1 (hold-put m ls p both.1)

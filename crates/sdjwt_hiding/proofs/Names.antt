-- The names of the members that are written ascend as those of the value did.
use Rattle.std.proofs.Common.{◌≡◌, ℕ, Bool, true, ◌&&◌, Option, Some, None, Ordering, Less, Equal, Greater}
use Rattle.std.proofs.Common.{nat_cmp, refl, ap}
use Rattle.std.specs.List.{list_all}
use Rattle.std.specs.Ordering.{match_ordering, is_lt}
use Rattle.std.specs.Cmp.Lexicographic.{slice_cmp}
use Rattle.std.proofs.lemmas.Bool.{and_parts, and_from}
use Rattle.serde_json.specs.Data.{Data, Members as Fields, no_members as no_fields, member as field, put}
use Rattle.claim_tree.specs.Tree.{Name, ascend}
use Rattle.claim_tree.specs.Ascending.{below}
use Rattle.claim_tree.proofs.Ascending.{all_below, above}
use Rattle.claim_names.specs.declared.address.Step.TheVariants.{Name as Named_step}
use Rattle.sdjwt_hiding.specs.Hiding.{Marks, under, at, Digests, with_member, hidden, left_members}
use Rattle.sdjwt_hiding.proofs.Written.{field_names}

-- ---- a member that is put in

put_names_at : (o : Ordering) (p : Name → Bool) (k l : Name) (d e : Data) (ms : Fields) → p k ≡ true
    → p l ≡ true → list_all p (field_names ms) ≡ true → list_all p (field_names (put k d ms)) ≡ true
    → list_all p (field_names (match_ordering o (field k d (field l e ms)) (field l d ms)
    (field l e (put k d ms)))) ≡ true
put_names_at Less p k l d e ms pk pl rest next =
    and_from (p k) (p l && list_all p (field_names ms)) pk
    (and_from (p l) (list_all p (field_names ms)) pl rest)
put_names_at Equal p k l d e ms pk pl rest next = and_from (p l) (list_all p (field_names ms)) pl rest
put_names_at Greater p k l d e ms pk pl rest next =
    and_from (p l) (list_all p (field_names (put k d ms))) pl next

put_names : (p : Name → Bool) (k : Name) (d : Data) (ms : Fields) → p k ≡ true
    → list_all p (field_names ms) ≡ true → list_all p (field_names (put k d ms)) ≡ true
put_names p k d no_fields pk h = and_from (p k) true pk refl
put_names p k d (field l e ms) pk h =
    let both = and_parts (p l) (list_all p (field_names ms)) h in
    put_names_at (slice_cmp nat_cmp k l) p k l d e ms pk both.0 both.1 (put_names p k d ms pk both.1)

put_ascend_at : (o : Ordering) (k l : Name) (d e : Data) (ms : Fields) → slice_cmp nat_cmp k l ≡ o
    → list_all (below l) (field_names ms) ≡ true → ascend (field_names ms) ≡ true
    → ascend (field_names (put k d ms)) ≡ true
    → ascend (field_names (match_ordering o (field k d (field l e ms)) (field l d ms)
    (field l e (put k d ms)))) ≡ true
put_ascend_at Less k l d e ms is first rest next =
    and_from (below k l && list_all (below k) (field_names ms))
    (list_all (below l) (field_names ms) && ascend (field_names ms))
    (and_from (below k l) (list_all (below k) (field_names ms)) (ap is_lt is)
    (all_below k l (field_names ms) is first))
    (and_from (list_all (below l) (field_names ms)) (ascend (field_names ms)) first rest)
put_ascend_at Equal k l d e ms is first rest next =
    and_from (list_all (below l) (field_names ms)) (ascend (field_names ms)) first rest
put_ascend_at Greater k l d e ms is first rest next =
    and_from (list_all (below l) (field_names (put k d ms))) (ascend (field_names (put k d ms)))
    (put_names (below l) k d ms (above k l is) first) next

pub put_ascend : (k : Name) (d : Data) (ms : Fields) → ascend (field_names ms) ≡ true
    → ascend (field_names (put k d ms)) ≡ true
put_ascend k d no_fields h = refl
put_ascend k d (field l e ms) h =
    let both = and_parts (list_all (below l) (field_names ms)) (ascend (field_names ms)) h in
    put_ascend_at (slice_cmp nat_cmp k l) k l d e ms refl both.0 both.1 (put_ascend k d ms both.1)

-- ---- the members that stay

module _ (x : Digests) where
  member_below : (o : Option ℕ) (p : Name → Bool) (k : Name) (v : Data) (ms : Fields) → p k ≡ true
      → list_all p (field_names ms) ≡ true → list_all p (field_names (with_member o k v ms)) ≡ true
  member_below None p k v ms a b = and_from (p k) (list_all p (field_names ms)) a b
  member_below (Some n) p k v ms a b = b

  member_ascend : (o : Option ℕ) (k : Name) (v : Data) (ms : Fields)
      → list_all (below k) (field_names ms) ≡ true → ascend (field_names ms) ≡ true
      → ascend (field_names (with_member o k v ms)) ≡ true
  member_ascend None k v ms a b = and_from (list_all (below k) (field_names ms)) (ascend (field_names ms)) a b
  member_ascend (Some n) k v ms a b = b

  left_below : (m : Marks) (p : Name → Bool) (ms : Fields) → list_all p (field_names ms) ≡ true
      → list_all p (field_names (left_members x m ms)) ≡ true
  left_below m p no_fields h = refl
  left_below m p (field k d ms) h =
      let both = and_parts (p k) (list_all p (field_names ms)) h in
      member_below (at (Named_step k) m) p k (hidden x (under (Named_step k) m) d) (left_members x m ms)
      both.0 (left_below m p ms both.1)

  pub left_ascend : (m : Marks) (ms : Fields) → ascend (field_names ms) ≡ true
      → ascend (field_names (left_members x m ms)) ≡ true
  left_ascend m no_fields h = refl
  left_ascend m (field k d ms) h =
      let both = and_parts (list_all (below k) (field_names ms)) (ascend (field_names ms)) h in
      member_ascend (at (Named_step k) m) k (hidden x (under (Named_step k) m) d) (left_members x m ms)
      (left_below m (below k) ms both.0) (left_ascend m ms both.1)

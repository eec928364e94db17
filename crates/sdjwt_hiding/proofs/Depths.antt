-- How deep a value is of which parts are hidden, and how deep the values of its disclosures are.
use Rattle.std.proofs.Common.{◌≡◌, ◌≤◌, ℕ, suc, List, [], ◌∷◌, ◌++◌, Option, Some, None, Ordering, Less}
use Rattle.std.proofs.Common.{Equal, Greater, nat_cmp, refl, arith}
use Rattle.std.specs.Prelude.{max}
use Rattle.std.specs.List.{AllByRecursion}
use Rattle.std.specs.Ordering.{match_ordering}
use Rattle.std.specs.Cmp.Lexicographic.{slice_cmp}
use Rattle.serde_json.specs.Data.{Data, null, boolean, number, string, array, object, Items, no_items, item}
use Rattle.serde_json.specs.Data.{Members as Fields, no_members as no_fields, member as field, put, depth}
use Rattle.serde_json.specs.Data.{items_depth, members_depth}
use Rattle.claim_tree.specs.Tree.{Name}
use Rattle.claim_names.specs.declared.address.Step.TheVariants.{Name as Named_step, Place}
use Rattle.base_forms.specs.Texts.{Utf8}
use Rattle.sdjwt_digests.specs.DigestSites.{sd}
use Rattle.sdjwt_disclosures.proofs.Fits.{all-append}
use Rattle.sdjwt_hiding.specs.Hiding.{Marks, under, at, Digests, sorted, texts, with_digests, standing}
use Rattle.sdjwt_hiding.specs.Hiding.{with_member, hidden, hidden_items, left_members, own_digests, Numbered}
use Rattle.sdjwt_hiding.specs.Hiding.{taken, met, met_items, met_members}

-- ---- a member that is put in

put_depth_at : (o : Ordering) (n : ℕ) (k l : Name) (d e : Data) (ms : Fields) → depth d ≤ n → depth e ≤ n
    → members_depth ms ≤ n → members_depth (put k d ms) ≤ n
    → members_depth (match_ordering o (field k d (field l e ms)) (field l d ms) (field l e (put k d ms))) ≤ n
put_depth_at Less n k l d e ms a b c next = omega arith
put_depth_at Equal n k l d e ms a b c next = omega arith
put_depth_at Greater n k l d e ms a b c next = omega arith

pub put_depth : (n : ℕ) (k : Name) (d : Data) (ms : Fields) → depth d ≤ n → members_depth ms ≤ n
    → members_depth (put k d ms) ≤ n
put_depth n k d no_fields a h = omega arith
put_depth n k d (field l e ms) a h =
    let here : depth e ≤ n = omega arith in
    let rest : members_depth ms ≤ n = omega arith in
    put_depth_at (slice_cmp nat_cmp k l) n k l d e ms a here rest (put_depth n k d ms a rest)

-- ---- lists of digests

texts_depth : (xs : List Utf8) → items_depth (texts xs) ≡ 0
texts_depth [] = refl
texts_depth (x ∷ xs) = omega (arith, texts_depth xs)

with_depth : (n : ℕ) (xs : List Utf8) (ms : Fields) → members_depth ms ≤ suc n
    → members_depth (with_digests xs ms) ≤ suc n
with_depth n [] ms h = h
with_depth n (x ∷ xs) ms h =
    let flat : depth (array (texts (sorted (x ∷ xs)))) ≤ suc n =
    omega (arith, texts_depth (sorted (x ∷ xs))) in
    put_depth (suc n) sd (array (texts (sorted (x ∷ xs)))) ms flat h

-- ---- the value, at most one level deeper

module _ (x : Digests) where
  standing_depth : (o : Option ℕ) (v : Data) (n : ℕ) → depth v ≤ suc n → depth (standing x o v) ≤ suc n
  standing_depth None v n h = h
  standing_depth (Some k) v n h = omega arith

  member_depth : (o : Option ℕ) (k : Utf8) (v : Data) (ms : Fields) (n : ℕ) → depth v ≤ n
      → members_depth ms ≤ n → members_depth (with_member o k v ms) ≤ n
  member_depth None k v ms n a b = omega arith
  member_depth (Some i) k v ms n a b = b

  mutual
    pub hidden_depth : (m : Marks) (d : Data) → depth (hidden x m d) ≤ suc (depth d)
    hidden_depth m null = omega arith
    hidden_depth m (boolean b) = omega arith
    hidden_depth m (number n) = omega arith
    hidden_depth m (string s) = omega arith
    hidden_depth m (array ds) = omega (arith, hidden_items_depth m 0 ds)
    hidden_depth m (object ms) = omega
        (arith, with_depth (members_depth ms) (own_digests x m ms) (left_members x m ms) (left_depth m ms))

    hidden_items_depth : (m : Marks) (i : ℕ) (ds : Items)
        → items_depth (hidden_items x m i ds) ≤ suc (items_depth ds)
    hidden_items_depth m i no_items = omega arith
    hidden_items_depth m i (item d ds) =
        omega (
          arith,
          standing_depth (at (Place i) m) (hidden x (under (Place i) m) d) (depth d)
              (hidden_depth (under (Place i) m) d),
          hidden_items_depth m (suc i) ds,
        )

    left_depth : (m : Marks) (ms : Fields) → members_depth (left_members x m ms) ≤ suc (members_depth ms)
    left_depth m no_fields = omega arith
    left_depth m (field k d ms) =
        let here : depth (hidden x (under (Named_step k) m) d) ≤ suc (max (depth d) (members_depth ms)) =
        omega (arith, hidden_depth (under (Named_step k) m) d) in
        let rest : members_depth (left_members x m ms) ≤ suc (max (depth d) (members_depth ms)) =
        omega (arith, left_depth m ms) in
        member_depth (at (Named_step k) m) k (hidden x (under (Named_step k) m) d) (left_members x m ms)
        (suc (max (depth d) (members_depth ms))) here rest

  -- ---- the disclosures

  -- the value of a disclosure has at most so many levels
  abbrev pub IsShallow : ℕ → Numbered → Type 0
  IsShallow n p = depth p.1.value ≤ n

  taken_shallow : (n : ℕ) (o : Option ℕ) (name : Option Utf8) (v : Data) → depth v ≤ n
      → AllByRecursion (IsShallow n) (taken x o name v)
  taken_shallow n None name v h = tt
  taken_shallow n (Some i) name v h = (h, tt)

  mutual
    pub met_shallow : (n : ℕ) (m : Marks) (d : Data) → depth d ≤ n
        → AllByRecursion (IsShallow (suc n)) (met x m d)
    met_shallow n m null deep = tt
    met_shallow n m (boolean b) deep = tt
    met_shallow n m (number k) deep = tt
    met_shallow n m (string s) deep = tt
    met_shallow n m (array ds) deep = items_shallow n m 0 ds (omega arith)
    met_shallow n m (object ms) deep = members_shallow n m ms (omega arith)

    items_shallow : (n : ℕ) (m : Marks) (i : ℕ) (ds : Items) → items_depth ds ≤ n
        → AllByRecursion (IsShallow (suc n)) (met_items x m i ds)
    items_shallow n m i no_items deep = tt
    items_shallow n m i (item d ds) deep =
        let v = hidden x (under (Place i) m) d in
        let inner = met x (under (Place i) m) d in
        let rest = met_items x m (suc i) ds in
        let here : depth d ≤ n = omega arith in
        let there : items_depth ds ≤ n = omega arith in
        let own = taken x (at (Place i) m) None v in
        all-append (IsShallow (suc n)) inner (own ++ rest) (met_shallow n (under (Place i) m) d here)
        (all-append (IsShallow (suc n)) own rest
        (taken_shallow (suc n) (at (Place i) m) None v
        (omega (arith, hidden_depth (under (Place i) m) d))) (items_shallow n m (suc i) ds there))

    members_shallow : (n : ℕ) (m : Marks) (ms : Fields) → members_depth ms ≤ n
        → AllByRecursion (IsShallow (suc n)) (met_members x m ms)
    members_shallow n m no_fields deep = tt
    members_shallow n m (field k d ms) deep =
        let v = hidden x (under (Named_step k) m) d in
        let inner = met x (under (Named_step k) m) d in
        let rest = met_members x m ms in
        let here : depth d ≤ n = omega arith in
        let there : members_depth ms ≤ n = omega arith in
        let own = taken x (at (Named_step k) m) (Some k) v in
        all-append (IsShallow (suc n)) inner (own ++ rest) (met_shallow n (under (Named_step k) m) d here)
        (all-append (IsShallow (suc n)) own rest
        (taken_shallow (suc n) (at (Named_step k) m) (Some k) v
        (omega (arith, hidden_depth (under (Named_step k) m) d))) (members_shallow n m ms there))

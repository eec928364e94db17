-- What a path selects ascends.
use Rattle.std.proofs.Common.{◌≡◌, ℕ, ◌+◌, ◌<◌, Bool, true, false, cond, List, [], ◌∷◌, ◌++◌, map, Option}
use Rattle.std.proofs.Common.{Some, None, option_map, option_and_then, Less, Equal, refl, sym, ap, ◌∙◌, subst}
use Rattle.std.proofs.Common.{append_assoc, append-nil, arith}
use Rattle.std.specs.Prelude.{⊤}
use Rattle.std.specs.List.{AllByRecursion, slice_get, filter}
use Rattle.std.specs.List.Sorted.{IsStrictlySortedBy}
use Rattle.std.specs.Option.{option_to_list, unwrap_or}
use Rattle.std.specs.Ordering.{ordering_then}
use Rattle.std.specs.Cmp.{nat_cmp_is}
use Rattle.std.proofs.lemmas.Cmp.{nat_list_cmp_total, nat_cmp_total, tied_itself}
use Rattle.claim_tree.specs.Order.{step_cmp, address_cmp}
use Rattle.claim_tree.specs.Tree.{Tree, ListOf, RecordOf, element_trees, member_at}
use Rattle.claim_names.specs.declared.address.Step.{Step}
use Rattle.claim_names.specs.declared.address.Step.TheVariants as to
use Rattle.claim_path.specs.declared.path.Scalar.{Scalar}
use Rattle.claim_path.specs.declared.path.PathStep.{PathStep}
use Rattle.claim_path.specs.declared.path.PathStep.TheVariants.{Member, Every, Place}
use Rattle.claim_path.specs.Select.{Address, Spot, spots_from, step, joined, walk, unless_empty}
use Rattle.claim_path.specs.Hits.{is_match, hits}
use Rattle.claim_path.proofs.Walks.{walk-append, walk-nothing, walk-one}

-- ---- what holds of what an `Option` has, and of each element

abbrev Each : {A : Type 0} → (A → Type 0) → Option A → Type 0
Each P None = ⊤
Each P (Some a) = P a

Each-and_then : {A B : Type 0} (P : A → Type 0) (Q : B → Type 0) (h : A → Option B)
    → ((a : A) → P a → Each Q (h a)) → (o : Option A) → Each P o → Each Q (option_and_then h o)
Each-and_then P Q h k None x = tt
Each-and_then P Q h k (Some a) x = k a x

Each-to : {A : Type 0} (P Q : A → Type 0) → ((a : A) → P a → Q a) → (o : Option A) → Each P o → Each Q o
Each-to P Q k None x = tt
Each-to P Q k (Some a) x = k a x

Each-joined : {A : Type 0} (P Q R : List A → Type 0) → ((xs ys : List A) → P xs → Q ys → R (xs ++ ys))
    → (x y : Option (List A)) → Each P x → Each Q y → Each R (joined x y)
Each-joined P Q R k None y p q = tt
Each-joined P Q R k (Some xs) None p q = tt
Each-joined P Q R k (Some xs) (Some ys) p q = k xs ys p q

Each-both : {A : Type 0} (P Q : A → Type 0) (o : Option A) → Each P o → Each Q o → Each (λ a. P a × Q a) o
Each-both P Q None p q = tt
Each-both P Q (Some a) p q = (p, q)

All-append : {A : Type 0} (P : A → Type 0) (xs ys : List A) → AllByRecursion P xs → AllByRecursion P ys
    → AllByRecursion P (xs ++ ys)
All-append P [] ys p q = q
All-append P (x ∷ xs) ys p q = (p.0, All-append P xs ys p.1 q)

All-to : {A : Type 0} (P Q : A → Type 0) → ((a : A) → P a → Q a) → (xs : List A) → AllByRecursion P xs
    → AllByRecursion Q xs
All-to P Q k [] p = tt
All-to P Q k (x ∷ xs) p = (k x p.0, All-to P Q k xs p.1)

-- ---- addresses

abbrev Extends : Address → Address → Type 0
Extends a b = (z : Address) × (b ≡ a ++ z)

-- b goes on from a by a step after s
abbrev Past : Address → Step → Address → Type 0
Past a s b = (u : Step) × (z : Address) × (step_cmp s u ≡ Less) × (b ≡ a ++ u ∷ z)

step_cmp-itself : (s : Step) → step_cmp s s ≡ Equal
step_cmp-itself (to.Name k) = tied_itself nat_list_cmp_total k
step_cmp-itself (to.Place i) = tied_itself nat_cmp_total i

address_cmp-append : (a x y : Address) → address_cmp (a ++ x) (a ++ y) ≡ address_cmp x y
address_cmp-append [] x y = refl
address_cmp-append (s ∷ a) x y = ap (λ o. ordering_then o (address_cmp (a ++ x) (a ++ y))) (step_cmp-itself s)
    ∙ address_cmp-append a x y

below_past : (a : Address) (s : Step) (b c : Address) → Extends (a ++ s ∷ []) b → Past a s c
    → address_cmp b c ≡ Less
below_past a s b c e p =
    ap (λ x. address_cmp x c) (e.1 ∙ append_assoc a (s ∷ []) e.0)
    ∙ ap (address_cmp (a ++ s ∷ e.0)) p.3
    ∙ address_cmp-append a (s ∷ e.0) (p.0 ∷ p.1)
    ∙ ap (λ o. ordering_then o (address_cmp e.0 p.1)) p.2

abbrev Below : List Address → Address → Type 0
Below cs b = AllByRecursion (λ c. address_cmp b c ≡ Less) cs

all_below_past : (a : Address) (s : Step) (b : Address) (cs : List Address) → Extends (a ++ s ∷ []) b
    → AllByRecursion (Past a s) cs → Below cs b
all_below_past a s b cs e p = All-to (Past a s) (λ c. address_cmp b c ≡ Less)
    (λ c q. below_past a s b c e q) cs p

abbrev Sorted : List Address → Type 0
Sorted = IsStrictlySortedBy address_cmp

Sorted-append : (xs ys : List Address) → Sorted xs → Sorted ys → AllByRecursion (Below ys) xs
    → Sorted (xs ++ ys)
unfolding IsStrictlySortedBy
Sorted-append [] ys p q below = q
Sorted-append (x ∷ xs) ys p q below = (
  All-append (λ c. address_cmp x c ≡ Less) xs ys p.0 below.0,
  Sorted-append xs ys p.1 q below.1,
)

Sorted-one : (x : Address) → Sorted (x ∷ [])
unfolding IsStrictlySortedBy
Sorted-one x = (tt, tt)

Sorted-none : Sorted []
unfolding IsStrictlySortedBy
Sorted-none = tt

-- ---- selections

abbrev addresses : List Spot → List Address
addresses ss = map (λ s. s.0) ss

addresses-append : (xs ys : List Spot) → addresses (xs ++ ys) ≡ addresses xs ++ addresses ys
addresses-append [] ys = refl
addresses-append (x ∷ xs) ys = ap (λ l. x.0 ∷ l) (addresses-append xs ys)

-- they go on from a, and ascend
abbrev Good : Address → List Spot → Type 0
Good a ss = AllByRecursion (Extends a) (addresses ss) × Sorted (addresses ss)

-- a part of the element at a, past s
abbrev IsLater : Address → Step → Spot → Type 0
IsLater a s t = (u : Step) × (step_cmp s u ≡ Less) × (t.0 ≡ a ++ u ∷ [])

-- parts of the element at a, in order
abbrev Kids : Address → List Spot → Type 0
Kids a [] = ⊤
Kids a (t ∷ ts) = ((s : Step) × (t.0 ≡ a ++ s ∷ []) × AllByRecursion (IsLater a s) ts) × Kids a ts

abbrev WalksWell : List PathStep → Type 0
WalksWell ps = (a : Address) (t : Tree) → Each (Good a) (walk ps ((a, t) ∷ []))

at_spot : (ps : List PathStep) → WalksWell ps → (s : Spot) (a : Address) → s.0 ≡ a
    → Each (Good a) (walk ps (s ∷ []))
at_spot ps well (b, t) a e = subst (λ x. Each (Good x) (walk ps ((b, t) ∷ []))) e (well b t)

past_from : (a : Address) (s u : Step) → step_cmp s u ≡ Less → (b : Address) → Extends (a ++ u ∷ []) b
    → Past a s b
past_from a s u less b e = (u, e.0, less, e.1 ∙ append_assoc a (u ∷ []) e.0)

later_walk : (ps : List PathStep) → WalksWell ps → (a : Address) (s : Step) (ss : List Spot)
    → AllByRecursion (IsLater a s) ss → Each (λ rs. AllByRecursion (Past a s) (addresses rs)) (walk ps ss)
later_walk ps well a s [] p = subst (Each (λ rs. AllByRecursion (Past a s) (addresses rs)))
    (sym (walk-nothing ps)) tt
later_walk ps well a s (t ∷ ts) p =
    let u = p.0.0 in
    let first : Each (λ rs. AllByRecursion (Past a s) (addresses rs)) (walk ps (t ∷ [])) =
    Each-to (Good (a ++ u ∷ [])) (λ rs. AllByRecursion (Past a s) (addresses rs))
    (λ rs g. All-to (Extends (a ++ u ∷ [])) (Past a s) (past_from a s u p.0.1) (addresses rs) g.0)
    (walk ps (t ∷ [])) (at_spot ps well t (a ++ u ∷ []) p.0.2) in
    subst (Each (λ rs. AllByRecursion (Past a s) (addresses rs))) (sym (walk-append ps (t ∷ []) ts))
    (Each-joined _ _ (λ rs. AllByRecursion (Past a s) (addresses rs))
    (λ xs ys q r. subst (AllByRecursion (Past a s)) (sym (addresses-append xs ys))
    (All-append (Past a s) (addresses xs) (addresses ys) q r)) (walk ps (t ∷ [])) (walk ps ts) first
    (later_walk ps well a s ts p.1))

good_both : (a : Address) (s : Step) (xs ys : List Spot) → Good (a ++ s ∷ []) xs
    → (Good a ys × AllByRecursion (Past a s) (addresses ys)) → Good a (xs ++ ys)
good_both a s xs ys p q =
    let e = addresses-append xs ys in
    let start : AllByRecursion (Extends a) (addresses xs) =
    All-to (Extends (a ++ s ∷ [])) (Extends a) (λ b x. (s ∷ x.0, x.1 ∙ append_assoc a (s ∷ []) x.0))
    (addresses xs) p.0 in (
      subst (AllByRecursion (Extends a)) (sym e) (All-append (Extends a) (addresses xs)
          (addresses ys) start q.0.0),
      subst Sorted (sym e) (Sorted-append (addresses xs) (addresses ys) p.1 q.0.1
          (All-to (Extends (a ++ s ∷ [])) (Below (addresses ys))
          (λ b x. all_below_past a s b (addresses ys) x q.1) (addresses xs) p.0)),
    )

kids_walk : (ps : List PathStep) → WalksWell ps → (a : Address) (ss : List Spot) → Kids a ss
    → Each (Good a) (walk ps ss)
kids_walk ps well a [] k = subst (Each (Good a)) (sym (walk-nothing ps)) (tt, Sorted-none)
kids_walk ps well a (t ∷ ts) k =
    let s = k.0.0 in
    subst (Each (Good a)) (sym (walk-append ps (t ∷ []) ts))
    (Each-joined (Good (a ++ s ∷ [])) (λ ys. Good a ys × AllByRecursion (Past a s) (addresses ys)) (Good a)
    (good_both a s) (walk ps (t ∷ [])) (walk ps ts) (at_spot ps well t (a ++ s ∷ []) k.0.1)
    (Each-both (Good a) (λ ys. AllByRecursion (Past a s) (addresses ys)) (walk ps ts)
    (kids_walk ps well a ts k.1) (later_walk ps well a s ts k.0.2)))

-- ---- what one step makes

places_later : (a : Address) (i j : ℕ) (ts : List Tree) → i < j
    → AllByRecursion (IsLater a (to.Place i)) (spots_from a j ts)
places_later a i j [] h = tt
places_later a i j (t ∷ ts) h = (
  (to.Place j, sym (nat_cmp_is i j Less h), refl),
  places_later a i (j + 1) ts (omega arith),
)

places_kids : (a : Address) (n : ℕ) (ts : List Tree) → Kids a (spots_from a n ts)
places_kids a n [] = tt
places_kids a n (t ∷ ts) = (
  (to.Place n, refl, places_later a n (n + 1) ts (omega arith)),
  places_kids a (n + 1) ts,
)

one_kid : (a : Address) (s : Step) (o : Option Tree)
    → Kids a (option_to_list (option_map (λ t. (a ++ s ∷ [], t)) o))
one_kid a s None = tt
one_kid a s (Some t) = ((s, refl, tt), tt)

step_kids : (p : PathStep) (a : Address) (t : Tree) → Each (Kids a) (step p (a, t))
step_kids (Member k) a (RecordOf ms) = one_kid a (to.Name k) (member_at k ms)
step_kids Every a (ListOf l es) = places_kids a 0 (element_trees es)
step_kids (Place i) a (ListOf true es) = tt
step_kids (Place i) a (ListOf false es) = one_kid a (to.Place i) (slice_get (element_trees es) i)
step_kids _ _ _ = tt

walks_well : (ps : List PathStep) → WalksWell ps
walks_well [] a t = ((([], sym (append-nil a)), tt), Sorted-one a)
walks_well (p ∷ ps) a t =
    subst (Each (Good a)) (sym (walk-one p ps (a, t)))
    (Each-and_then (Kids a) (Good a) (walk ps) (kids_walk ps (walks_well ps) a) (step p (a, t))
    (step_kids p a t))

-- ---- the hits

kept_all_at : (b : Bool) (P : Address → Type 0) (s : Spot) (ss : List Spot) → P s.0
    → AllByRecursion P (addresses ss) → AllByRecursion P (addresses (cond b (s ∷ ss) ss))
kept_all_at true P s ss p q = (p, q)
kept_all_at false P s ss p q = q

kept_all : (f : Spot → Bool) (P : Address → Type 0) (ss : List Spot) → AllByRecursion P (addresses ss)
    → AllByRecursion P (addresses (filter f ss))
kept_all f P [] p = tt
kept_all f P (s ∷ ss) p = kept_all_at (f s) P s (filter f ss) p.0 (kept_all f P ss p.1)

kept_sorted_at : (b : Bool) (s : Spot) (ss : List Spot) → Below (addresses ss) s.0 → Sorted (addresses ss)
    → Sorted (addresses (cond b (s ∷ ss) ss))
unfolding IsStrictlySortedBy
kept_sorted_at true s ss p q = (p, q)
kept_sorted_at false s ss p q = q

kept_sorted : (f : Spot → Bool) (ss : List Spot) → Sorted (addresses ss) → Sorted (addresses (filter f ss))
unfolding IsStrictlySortedBy
kept_sorted f [] p = tt
kept_sorted f (s ∷ ss) p = kept_sorted_at (f s) s (filter f ss)
    (kept_all f (λ c. address_cmp s.0 c ≡ Less) ss p.0) (kept_sorted f ss p.1)

selected_sorted : (f : Spot → Bool) (w : Option (List Spot)) → Each (Good []) w
    → Sorted (addresses (filter f (unwrap_or (option_and_then unless_empty w) [])))
selected_sorted f None g = Sorted-none
selected_sorted f (Some []) g = Sorted-none
selected_sorted f (Some (s ∷ ss)) g = kept_sorted f (s ∷ ss) g.1

-- the hits ascend
pub hits-ascend : (path : List PathStep) (values : Option (List Scalar)) (t : Tree)
    → IsStrictlySortedBy address_cmp (hits path values t)
hits-ascend path values t = selected_sorted (λ s. is_match values s.1) (walk path (([], t) ∷ []))
    (walks_well path [] t)

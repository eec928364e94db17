-- No more parts are hidden than there are addresses to hide, since no two parts have one address.
use Rattle.std.proofs.Common.{◌≡◌, ◌≤◌, ◌+◌, ℕ, suc, Bool, true, false, ◌&&◌, ◌||◌, cond, List, []}
use Rattle.std.proofs.Common.{◌∷◌, ◌++◌, length, Option, Some, None, option_map, refl, sym, ap, ◌∙◌, inl, inr}
use Rattle.std.proofs.Common.{arith, length-append, Ordering, Less, Equal, Greater, nat_cmp}
use Rattle.std.specs.Prelude.{is_some}
use Rattle.std.specs.List.{list_any, list_all}
use Rattle.std.specs.Str.{bytes_eq}
use Rattle.std.specs.Ordering.{is_lt, ordering_reverse}
use Rattle.std.specs.Cmp.Lexicographic.{slice_cmp}
use Rattle.std.proofs.lemmas.Cmp.{nat_list_cmp_total}
use Rattle.std.proofs.lemmas.Bool.{and_parts, cases_Bool}
use Rattle.std.proofs.lemmas.Slice.Eq.{bytes_eq-Decides}
use Rattle.serde_json.specs.Data.{Data, null, boolean, number, string, array, object, Items, no_items, item}
use Rattle.serde_json.specs.Data.{Members as Fields, no_members as no_fields, member as field}
use Rattle.base_forms.specs.Texts.{Utf8, is_among}
use Rattle.base_forms.proofs.Differing.{same_from}
use Rattle.claim_tree.specs.Tree.{is_claim, are_claims, hold_claims, ascend, member_names}
use Rattle.claim_tree.specs.Ascending.{below as is_below}
use Rattle.claim_tree.specs.Plain.{plain, plain_elements, plain_members as plain_fields}
use Rattle.claim_names.specs.declared.address.Step.{Step}
use Rattle.claim_names.specs.declared.address.Step.TheVariants.{Name, Place}
use Rattle.sdjwt_hiding.specs.Addresses.{same_step, same_address, number_in}
use Rattle.sdjwt_hiding.specs.Hiding.{Digests, Marks, under, at, hidden, Numbered, taken, met, met_items}
use Rattle.sdjwt_hiding.specs.Hiding.{met_members}

-- ---- addresses among some

abbrev pub is_in : List (List Step) → List Step → Bool
is_in hs a = list_any (λ h. same_address h a) hs

number_at : (b : Bool) (o : Option ℕ) → is_some (cond b (Some 0) (option_map suc o)) ≡ (b || is_some o)
number_at true o = refl
number_at false None = refl
number_at false (Some n) = refl

-- an address has a number where it is among them
pub numbered : (hs : List (List Step)) (a : List Step) → is_some (number_in hs a) ≡ is_in hs a
numbered [] a = refl
numbered (h ∷ hs) a = number_at (same_address h a) (number_in hs a)
    ∙ ap (λ b. same_address h a || b) (numbered hs a)

step_is : (s t : Step) → same_step s t ≡ true → s ≡ t
step_is (Name k) (Name l) e = ap Name (same_from k l e)
step_is (Name k) (Place j) e = cc
step_is (Place i) (Name l) e = cc
step_is (Place i) (Place j) e = let is : i ≡ j = grind arith in ap Place is

-- ---- the addresses below a step, and those that do not begin with it

-- a list with one more, where it is to stand
abbrev keep : Bool → List Step → List (List Step) → List (List Step)
keep b a hs = cond b (a ∷ hs) hs

abbrev pub rests : Step → List (List Step) → List (List Step)
rests s [] = []
rests s ([] ∷ hs) = rests s hs
rests s ((t ∷ a) ∷ hs) = cond (same_step t s) (a ∷ rests s hs) (rests s hs)

abbrev pub others : Step → List (List Step) → List (List Step)
others s [] = []
others s ([] ∷ hs) = others s hs
others s ((t ∷ a) ∷ hs) = cond (same_step t s) (others s hs) ((t ∷ a) ∷ others s hs)

abbrev pub longer : List (List Step) → List (List Step)
longer [] = []
longer ([] ∷ hs) = longer hs
longer ((t ∷ a) ∷ hs) = (t ∷ a) ∷ longer hs

parted_at : (b : Bool) (a h : List Step) (xs ys hs : List (List Step)) → length xs + length ys ≤ length hs
    → length (cond b (a ∷ xs) xs) + length (cond b ys (h ∷ ys)) ≤ length (h ∷ hs)
parted_at true a h xs ys hs e = omega arith
parted_at false a h xs ys hs e = omega arith

parted : (s : Step) (hs : List (List Step)) → length (rests s hs) + length (others s hs) ≤ length hs
parted s [] = omega arith
parted s ([] ∷ hs) = omega (arith, parted s hs)
parted s ((t ∷ a) ∷ hs) = parted_at (same_step t s) a (t ∷ a) (rests s hs) (others s hs) hs (parted s hs)

in_rests_at : (b : Bool) (h a : List Step) (xs : List (List Step)) (r : Bool)
    → ((b && same_address h a) || r) ≡ true → (r ≡ true → is_in xs a ≡ true)
    → is_in (cond b (h ∷ xs) xs) a ≡ true
in_rests_at true h a xs r e next = elim (cases_Bool (same_address h a)) [
  | inl here ↦ rw here refl
  | inr past ↦ let more : r ≡ true = (rw past at e) in rw past (next more)
]
in_rests_at false h a xs r e next = next e

in_rests : (s : Step) (a : List Step) (hs : List (List Step)) → is_in hs (s ∷ a) ≡ true
    → is_in (rests s hs) a ≡ true
in_rests s a [] e = absurd (cc e)
in_rests s a ([] ∷ hs) e = in_rests s a hs e
in_rests s a ((t ∷ h) ∷ hs) e =
    in_rests_at (same_step t s) h a (rests s hs) (is_in hs (s ∷ a)) e (in_rests s a hs)

in_others_at : (b c : Bool) (h a : List Step) (xs : List (List Step)) (r : Bool) → (c ≡ true → b ≡ false)
    → same_address h a ≡ c → (c || r) ≡ true → (r ≡ true → is_in xs a ≡ true)
    → is_in (cond b xs (h ∷ xs)) a ≡ true
in_others_at true true h a xs r apart here e next = absurd (cc (apart refl))
in_others_at true false h a xs r apart here e next = next e
in_others_at false true h a xs r apart here e next = rw here refl
in_others_at false false h a xs r apart here e next = rw here (next e)

begins : (t u : Step) (h a : List Step) (s : Step) → same_step u s ≡ false
    → same_address (t ∷ h) (u ∷ a) ≡ true → same_step t s ≡ false
begins t u h a s apart e =
    let both = and_parts (same_step t u) (same_address h a) e in
    ap (λ z. same_step z s) (step_is t u both.0) ∙ apart

in_others : (s u : Step) (a : List Step) (hs : List (List Step)) → same_step u s ≡ false
    → is_in hs (u ∷ a) ≡ true → is_in (others s hs) (u ∷ a) ≡ true
in_others s u a [] apart e = absurd (cc e)
in_others s u a ([] ∷ hs) apart e = in_others s u a hs apart e
in_others s u a ((t ∷ h) ∷ hs) apart e =
    in_others_at (same_step t s) (same_address (t ∷ h) (u ∷ a)) (t ∷ h) (u ∷ a) (others s hs)
    (is_in hs (u ∷ a)) (begins t u h a s apart) refl e (in_others s u a hs apart)

in_longer_at : (h a : List Step) (xs : List (List Step)) (r : Bool) → (same_address h a || r) ≡ true
    → (r ≡ true → is_in xs a ≡ true) → is_in (h ∷ xs) a ≡ true
in_longer_at h a xs r e next = elim (cases_Bool (same_address h a)) [
  | inl here ↦ rw here refl
  | inr past ↦ let more : r ≡ true = (rw past at e) in rw past (next more)
]

in_longer : (s : Step) (a : List Step) (hs : List (List Step)) → is_in hs (s ∷ a) ≡ true
    → is_in (longer hs) (s ∷ a) ≡ true
in_longer s a [] e = absurd (cc e)
in_longer s a ([] ∷ hs) e = in_longer s a hs e
in_longer s a ((t ∷ h) ∷ hs) e =
    in_longer_at (t ∷ h) (s ∷ a) (longer hs) (is_in hs (s ∷ a)) e (in_longer s a hs)

longer_few : (hs : List (List Step)) → length (longer hs) ≤ length hs
longer_few [] = omega arith
longer_few ([] ∷ hs) = omega (arith, longer_few hs)
longer_few ((t ∷ a) ∷ hs) = omega (arith, longer_few hs)

root_in : (hs : List (List Step)) → is_in hs [] ≡ true → suc (length (longer hs)) ≤ length hs
root_in [] e = absurd (cc e)
root_in ([] ∷ hs) e = omega (arith, longer_few hs)
root_in ((t ∷ a) ∷ hs) e = omega (arith, root_in hs e)

-- ---- the parts of a value

-- all that is marked is among the addresses
abbrev pub Covers : List (List Step) → Marks → Type 0
Covers hs m = (a : List Step) → is_some (m a) ≡ true → is_in hs a ≡ true

-- all that is marked below the root
abbrev CoversParts : List (List Step) → Marks → Type 0
CoversParts hs m = (s : Step) (a : List Step) → is_some (m (s ∷ a)) ≡ true → is_in hs (s ∷ a) ≡ true

-- the elements from a place on
abbrev CoversFrom : ℕ → List (List Step) → Marks → Type 0
CoversFrom i hs m = (j : ℕ) (a : List Step) → i ≤ j → is_some (m (Place j ∷ a)) ≡ true
    → is_in hs (Place j ∷ a) ≡ true

-- the members of some names
abbrev CoversNamed : List Utf8 → List (List Step) → Marks → Type 0
CoversNamed ks hs m = (k : Utf8) (a : List Step) → is_among k ks ≡ true → is_some (m (Name k ∷ a)) ≡ true
    → is_in hs (Name k ∷ a) ≡ true

later : (i j : ℕ) → suc i ≤ j → same_step (Place j) (Place i) ≡ false
later i j h = grind arith

same_name : (k : Utf8) → bytes_eq k k ≡ true
same_name k = (bytes_eq-Decides k k).1 refl

never_below : (o : Ordering) → o ≡ ordering_reverse o → is_lt o ≡ true → ⊥
never_below Less e h = cc
never_below Equal e h = cc
never_below Greater e h = cc

below_apart : (k l : Utf8) → is_below k l ≡ true → bytes_eq l k ≡ false
below_apart k l h = elim (cases_Bool (bytes_eq l k)) [
  | inl same ↦ let self : is_below k k ≡ true = ap (is_below k) (sym (same_from l k same)) ∙ h in
      absurd (never_below (slice_cmp nat_cmp k k) (nat_list_cmp_total.antisymm k k) self)
  | inr apart ↦ apart
]

among_apart : (k l : Utf8) (ks : List Utf8) → list_all (is_below k) ks ≡ true → is_among l ks ≡ true
    → bytes_eq l k ≡ false
among_apart k l [] h e = absurd (cc e)
among_apart k l (j ∷ ks) h e =
    let both = and_parts (is_below k j) (list_all (is_below k) ks) h in
    elim (cases_Bool (bytes_eq j l)) [
      | inl here ↦ ap (λ z. bytes_eq z k) (sym (same_from j l here)) ∙ below_apart k j both.0
      | inr past ↦ let more : is_among l ks ≡ true = (rw past at e) in among_apart k l ks both.1 more
    ]

module _ (x : Digests) where
  -- the disclosure of a part itself, and those of its own parts
  own_part : (o : Option ℕ) (name : Option Utf8) (v : Data) (p : List Numbered) (hs : List (List Step))
      → (is_some o ≡ true → is_in hs [] ≡ true) → length p ≤ length (longer hs)
      → length p + length (taken x o name v) ≤ length hs
  own_part None name v p hs root h = omega (arith, longer_few hs)
  own_part (Some n) name v p hs root h = omega (arith, root_in hs (root refl))

  joined : (p t r : List Numbered) (hs us vs : List (List Step)) → length p + length t ≤ length us
      → length r ≤ length vs → length us + length vs ≤ length hs → length (p ++ (t ++ r)) ≤ length hs
  joined p t r hs us vs a b c = omega (arith, length-append p (t ++ r), length-append t r)

  mutual
    pub met_few : (m : Marks) (hs : List (List Step)) (d : Data) → is_claim (plain d) ≡ true
        → CoversParts hs m → length (met x m d) ≤ length hs
    met_few m hs null c h = omega arith
    met_few m hs (boolean b) c h = omega arith
    met_few m hs (number n) c h = omega arith
    met_few m hs (string s) c h = omega arith
    met_few m hs (array ds) c h =
        items_few m hs 0 ds (and_parts _ (are_claims (plain_elements ds)) c).1 (λ j a _ e. h (Place j) a e)
    met_few m hs (object ms) c h =
        let both = and_parts (ascend (member_names (plain_fields ms))) (hold_claims (plain_fields ms)) c in
        members_few m hs ms both.0 both.1 (λ k a _ e. h (Name k) a e)

    items_few : (m : Marks) (hs : List (List Step)) (i : ℕ) (ds : Items)
        → are_claims (plain_elements ds) ≡ true → CoversFrom i hs m
        → length (met_items x m i ds) ≤ length hs
    items_few m hs i no_items c h = omega arith
    items_few m hs i (item d ds) c h =
        let both = and_parts (is_claim (plain d)) (are_claims (plain_elements ds)) c in
        let v = hidden x (under (Place i) m) d in
        let here : i ≤ i = omega arith in
        let below : Covers (rests (Place i) hs) (under (Place i) m) =
        λ a e. in_rests (Place i) a hs (h i a here e) in
        let part = own_part (at (Place i) m) None v (met x (under (Place i) m) d) (rests (Place i) hs)
        (below [])
        (met_few (under (Place i) m) (longer (rests (Place i) hs)) d both.0
        (λ s a e. in_longer s a (rests (Place i) hs) (below (s ∷ a) e))) in
        let rest = items_few m (others (Place i) hs) (suc i) ds both.1
        (λ j a past e. let from : i ≤ j = omega arith in
        in_others (Place i) (Place j) a hs (later i j past) (h j a from e)) in
        joined (met x (under (Place i) m) d) (taken x (at (Place i) m) None v) (met_items x m (suc i) ds) hs
        (rests (Place i) hs) (others (Place i) hs) part rest (parted (Place i) hs)

    members_few : (m : Marks) (hs : List (List Step)) (ms : Fields)
        → ascend (member_names (plain_fields ms)) ≡ true → hold_claims (plain_fields ms) ≡ true
        → CoversNamed (member_names (plain_fields ms)) hs m → length (met_members x m ms) ≤ length hs
    members_few m hs no_fields up c h = omega arith
    members_few m hs (field k d ms) up c h =
        let names = member_names (plain_fields ms) in
        let ups = and_parts (list_all (is_below k) names) (ascend names) up in
        let both = and_parts (is_claim (plain d)) (hold_claims (plain_fields ms)) c in
        let v = hidden x (under (Name k) m) d in
        let below : Covers (rests (Name k) hs) (under (Name k) m) =
        λ a e. in_rests (Name k) a hs (h k a (ap (λ b. b || is_among k names) (same_name k)) e) in
        let part = own_part (at (Name k) m) (Some k) v (met x (under (Name k) m) d) (rests (Name k) hs)
        (below [])
        (met_few (under (Name k) m) (longer (rests (Name k) hs)) d both.0
        (λ s a e. in_longer s a (rests (Name k) hs) (below (s ∷ a) e))) in
        let rest = members_few m (others (Name k) hs) ms ups.1 both.1
        (λ l a among e. in_others (Name k) (Name l) a hs (among_apart k l names ups.0 among)
        (h l a (after k l names among) e)) in
        joined (met x (under (Name k) m) d) (taken x (at (Name k) m) (Some k) v) (met_members x m ms) hs
        (rests (Name k) hs) (others (Name k) hs) part rest (parted (Name k) hs) where
          after : (k l : Utf8) (ks : List Utf8) → is_among l ks ≡ true → is_among l (k ∷ ks) ≡ true
          after k l ks e = elim (cases_Bool (bytes_eq k l)) [
            | inl here ↦ rw here refl
            | inr past ↦ rw past e
          ]

-- ---- where nothing is marked

module _ (x : Digests) where
  mutual
    pub none_met : (m : Marks) (d : Data) → ((a : List Step) → m a ≡ None) → met x m d ≡ []
    none_met m null h = refl
    none_met m (boolean b) h = refl
    none_met m (number n) h = refl
    none_met m (string s) h = refl
    none_met m (array ds) h = no_items_met m 0 ds h
    none_met m (object ms) h = no_members_met m ms h

    no_items_met : (m : Marks) (i : ℕ) (ds : Items) → ((a : List Step) → m a ≡ None)
        → met_items x m i ds ≡ []
    no_items_met m i no_items h = refl
    no_items_met m i (item d ds) h =
        let v = hidden x (under (Place i) m) d in
        ap (λ ps. ps ++ (taken x (at (Place i) m) None v ++ met_items x m (suc i) ds))
        (none_met (under (Place i) m) d (λ a. h (Place i ∷ a)))
        ∙ ap (λ o. taken x o None v ++ met_items x m (suc i) ds) (h (Place i ∷ []))
        ∙ no_items_met m (suc i) ds h

    no_members_met : (m : Marks) (ms : Fields) → ((a : List Step) → m a ≡ None) → met_members x m ms ≡ []
    no_members_met m no_fields h = refl
    no_members_met m (field k d ms) h =
        let v = hidden x (under (Name k) m) d in
        ap (λ ps. ps ++ (taken x (at (Name k) m) (Some k) v ++ met_members x m ms))
        (none_met (under (Name k) m) d (λ a. h (Name k ∷ a)))
        ∙ ap (λ o. taken x o (Some k) v ++ met_members x m ms) (h (Name k ∷ []))
        ∙ no_members_met m ms h

-- The places of addresses, found from the last address to the first.
use Rattle.std.proofs.Common.{◌≡◌, ℕ, suc, ◌+◌, Bool, true, false, cond, ◌&&◌, ◌==◌, List, [], ◌∷◌}
use Rattle.std.proofs.Common.{Option, Some, None, option_map, Ordering, Less, Equal}
use Rattle.std.proofs.Common.{Greater, nat_cmp, refl, sym, ap, ap₂, ◌∙◌, arith}
use Rattle.std.specs.Ordering.{is_eq, ordering_then}
use Rattle.std.specs.Cmp.Lexicographic.{slice_cmp}
use Rattle.std.specs.Cmp.{unsigned_tied}
use Rattle.std.proofs.lemmas.Map.Text.{is_eq-slice_cmp}
use Rattle.claim_names.specs.Order.{step_cmp, address_cmp}
use Rattle.claim_names.specs.contracts.address.StepOrd.TheImpl.{ghosts}
use Rattle.claim_names.specs.declared.address.Step.{Step}
use Rattle.claim_names.specs.declared.address.Step.TheVariants.{Name, Place}
use Rattle.sdjwt_hiding.specs.Addresses.{same_step, same_address, number_in}

-- ---- the order of steps in memory

-- the order that is derived for steps
abbrev derived : Step → Step → Ordering
derived = ghosts.cmp

derived_is : (s t : Step) → derived s t ≡ step_cmp s t
derived_is (Name k) (Name l) = refl
derived_is (Name k) (Place j) = refl
derived_is (Place i) (Name l) = refl
derived_is (Place i) (Place j) = refl

pub same_order : derived ≡ step_cmp
same_order = λ i s t. derived_is s t i

-- ---- equal addresses

is_eq-then : (o p : Ordering) → is_eq (ordering_then o p) ≡ (is_eq o && is_eq p)
is_eq-then Less p = refl
is_eq-then Equal p = refl
is_eq-then Greater p = refl

same_number : (i j : ℕ) → is_eq (nat_cmp i j) ≡ (i == j)
same_number i j = unsigned_tied i j

same_steps : (s t : Step) → is_eq (step_cmp s t) ≡ same_step s t
same_steps (Name k) (Name l) = is_eq-slice_cmp k l
same_steps (Name k) (Place j) = refl
same_steps (Place i) (Name l) = refl
same_steps (Place i) (Place j) = same_number i j

pub same_addresses : (a b : List Step) → is_eq (address_cmp a b) ≡ same_address a b
same_addresses [] [] = refl
same_addresses [] (t ∷ b) = refl
same_addresses (s ∷ a) [] = refl
same_addresses (s ∷ a) (t ∷ b) =
    is_eq-then (step_cmp s t) (slice_cmp step_cmp a b)
    ∙ ap₂ (λ p q. p && q) (same_steps s t) (same_addresses a b)

-- ---- the place of the first equal address

-- a place among the last of some addresses, of which this many come before
abbrev pub shifted : ℕ → Option ℕ → Option ℕ
shifted n o = option_map (λ k. n + k) o

pub shifted_none : (o : Option ℕ) → shifted 0 o ≡ o
shifted_none None = refl
shifted_none (Some k) = let same : 0 + k ≡ k = omega arith in ap Some same

shifted_suc : (n : ℕ) (o : Option ℕ) → shifted n (option_map suc o) ≡ shifted (n + 1) o
shifted_suc n None = refl
shifted_suc n (Some k) = let same : n + suc k ≡ n + 1 + k = omega arith in ap Some same

here : (n : ℕ) → shifted n (Some 0) ≡ Some n
here n = let same : n + 0 ≡ n = omega arith in ap Some same

-- one more address, before those that were placed
pub placed : (n : ℕ) (h a : List Step) (hs : List (List Step)) (before after : Option ℕ)
    → before ≡ shifted (n + 1) (number_in hs a) → after ≡ cond (is_eq (address_cmp h a)) (Some n) before
    → after ≡ shifted n (number_in (h ∷ hs) a)
placed n h a hs before after was is =
    is ∙ ap₂ (λ (b : Bool) (o : Option ℕ). cond b (Some n) o) (same_addresses h a) was
    ∙ chosen (same_address h a)
  where
    chosen : (b : Bool)
        → cond b (Some n) (shifted (n + 1) (number_in hs a))
        ≡ shifted n (cond b (Some 0) (option_map suc (number_in hs a)))
    chosen true = sym (here n)
    chosen false = sym (shifted_suc n (number_in hs a))

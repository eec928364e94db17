-- The next of pairs that are ordered by their heads first: the same head with the next tail, else the next
-- head with its
-- least tail.
use Rattle.std.proofs.Common.{◌≡◌, sym, ap, ◌∙◌, subst, inl, inr}
use Rattle.std.specs.declared.cmp.Ordering.{Ordering}
use Rattle.std.specs.declared.cmp.Ordering.TheVariants.{Less}
use Rattle.std.specs.Ordering.{ordering_then}
use Rattle.admitted_answers.specs.Least.{IsLeast, IsNone}
use Rattle.dcql_answers.proofs.Orders.{IsOrder, split_then, strict, itself, not_below_itself}

-- the tail goes on
pub stays : {A B : Type 0} {cmp : A → A → Ordering} {next : B → B → Ordering} → IsOrder cmp
    → (P : A → Type 0) (Q : A → B → Type 0) (a : A) (b t : B)
    → IsLeast (λ y. Q a y × (next b y ≡ Less)) next t
    → (x : A) (y : B) → Q x y → ordering_then (cmp a x) (next b y) ≡ Less
    → ordering_then (cmp x a) (next y t) ≡ Less → ⊥
stays {A} {B} {cmp} {next} o P Q a b t least x y q h k = elim (split_then _ _ h) [
  | inl less ↦ elim (split_then _ _ k) [
    | inl more ↦ strict o a x less more
    | inr even ↦ let e : a ≡ x = sym (o.same x a even.0) in not_below_itself o a
        (subst (λ z. cmp a z ≡ Less) (sym e) less)
  ]
  | inr even ↦
      let e : x ≡ a = sym (o.same a x even.0) in
      let here = subst (λ z. Q z y) e q in
      elim (split_then _ _ k) [
        | inl more ↦ not_below_itself o a (subst (λ z. cmp z a ≡ Less) e more)
        | inr less ↦ least.none_below y (here, even.1) less.1
      ]
]

-- the tail is at its end, and the head goes on
pub moves : {A B : Type 0} {cmp : A → A → Ordering} {next : B → B → Ordering} → IsOrder cmp
    → (P : A → Type 0) (Q : A → B → Type 0) (a z : A) (b t : B)
    → IsNone (λ y. Q a y × (next b y ≡ Less)) → IsLeast (λ x. P x × (cmp a x ≡ Less)) cmp z
    → IsLeast (Q z) next t
    → (x : A) (y : B) → P x → Q x y → ordering_then (cmp a x) (next b y) ≡ Less
    → ordering_then (cmp x z) (next y t) ≡ Less → ⊥
moves {A} {B} {cmp} {next} o P Q a z b t none head least x y p q h k = elim (split_then _ _ h) [
  | inl less ↦ elim (split_then _ _ k) [
    | inl more ↦ head.none_below x (p, less) more
    | inr even ↦ least.none_below y (subst (λ w. Q w y) (o.same x z even.0) q) even.1
  ]
  | inr even ↦ none y (subst (λ w. Q w y) (sym (o.same a x even.0)) q, even.1)
]

-- both are at their end
pub ends : {A B : Type 0} {cmp : A → A → Ordering} (next : B → B → Ordering) → IsOrder cmp
    → (P : A → Type 0) (Q : A → B → Type 0) (a : A) (b : B)
    → IsNone (λ y. Q a y × (next b y ≡ Less)) → IsNone (λ x. P x × (cmp a x ≡ Less))
    → (x : A) (y : B) → P x → Q x y → ordering_then (cmp a x) (next b y) ≡ Less → ⊥
ends {A} {B} {cmp} next o P Q a b none over x y p q h = elim (split_then _ _ h) [
  | inl less ↦ over x (p, less)
  | inr even ↦ none y (subst (λ w. Q w y) (sym (o.same a x even.0)) q, even.1)
]

-- the least head with its least tail
pub begins : {A B : Type 0} {cmp : A → A → Ordering} {next : B → B → Ordering} → IsOrder cmp
    → (P : A → Type 0) (Q : A → B → Type 0) (z : A) (t : B)
    → IsLeast P cmp z → IsLeast (Q z) next t → (x : A) (y : B) → P x → Q x y
    → ordering_then (cmp x z) (next y t) ≡ Less → ⊥
begins {A} {B} {cmp} {next} o P Q z t head least x y p q k = elim (split_then _ _ k) [
  | inl less ↦ head.none_below x p less
  | inr even ↦ least.none_below y (subst (λ w. Q w y) (o.same x z even.0) q) even.1
]

pub same_then_less : {A : Type 0} {cmp : A → A → Ordering} → IsOrder cmp → (a : A) (s : Ordering) → s ≡ Less
    → ordering_then (cmp a a) s ≡ Less
same_then_less o a s h = ap (λ r. ordering_then r s) (itself o a) ∙ h

pub less_then : (o s : Ordering) → o ≡ Less → ordering_then o s ≡ Less
less_then o s h = ap (λ r. ordering_then r s) h

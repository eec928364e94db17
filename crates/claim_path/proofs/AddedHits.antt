-- The hits of several parts are those of each, one after another.
use Rattle.std.proofs.Common.{◌≡◌, ℕ, ◌+◌, ◌-◌, ◌<◌, Bool, true, false, List, [], ◌∷◌, ◌++◌, length, map}
use Rattle.std.proofs.Common.{take, drop, Option, Some, None, option_and_then, refl, sym, ap, ◌∙◌, subst}
use Rattle.std.proofs.Common.{append_assoc, append-nil, arith}
use Rattle.std.specs.List.{slice_get, filter}
use Rattle.std.proofs.lemmas.List.{take_more, length-take-le, map-append, take-append-drop, length-append}
use Rattle.std.proofs.Math.Seq.{take-append_seam}
use Rattle.std.proofs.lemmas.List.Elements.{filter-append}
use Rattle.std.proofs.lemmas.Option.{slice_get_within, get_or_from_slice_get}
use Rattle.claim_tree.specs.Tree.{Tree}
use Rattle.claim_names.specs.declared.address.Step.TheVariants as to
use Rattle.claim_path.specs.declared.path.Scalar.{Scalar}
use Rattle.claim_path.specs.declared.path.PathStep.{PathStep}
use Rattle.claim_path.specs.Select.{Address, Spot, spots_from, step, joined, walk}
use Rattle.claim_path.specs.Hits.{is_match}
use Rattle.claim_path.specs.code.AddedHits.{hit_addresses, AddsHits}
use Rattle.claim_path.proofs.Walks.{spots_from-append, walk-append, walk-nothing, walk-one}

hit_addresses-append : (values : Option (List Scalar)) (xs ys : List Spot)
    → hit_addresses values (xs ++ ys) ≡ hit_addresses values xs ++ hit_addresses values ys
hit_addresses-append values xs ys = ap (map (λ s. s.0)) (filter-append (λ s. is_match values s.1) xs ys)
    ∙ map-append (λ s. s.0) (filter (λ s. is_match values s.1) xs) (filter (λ s. is_match values s.1) ys)

AddsHits-joined : (values : Option (List Scalar)) (x y : Option (List Spot)) (right : Bool)
    (xs0 xs1 xs2 : List Address) → AddsHits values x true xs0 xs1 → AddsHits values y right xs1 xs2
    → AddsHits values (joined x y) right xs0 xs2
AddsHits-joined values None y right xs0 xs1 xs2 h k = cc
AddsHits-joined values (Some xs) None right xs0 xs1 xs2 h k = k
AddsHits-joined values (Some xs) (Some ys) right xs0 xs1 xs2 h k = (
  k.0,
  k.1 ∙ ap (λ l. l ++ hit_addresses values ys) h.1
      ∙ append_assoc xs0 (hit_addresses values xs) (hit_addresses values ys)
      ∙ ap (λ l. xs0 ++ l) (sym (hit_addresses-append values xs ys)),
)

AddsHits-wrong : (values : Option (List Scalar)) (x y : Option (List Spot)) (xs0 xs1 : List Address)
    → AddsHits values x false xs0 xs1 → AddsHits values (joined x y) false xs0 xs1
AddsHits-wrong values None y xs0 xs1 h = refl
AddsHits-wrong values (Some xs) y xs0 xs1 h = cc

walk-one_more : (ps : List PathStep) (a : Address) (ts : List Tree) (i : ℕ) (t : Tree)
    → slice_get ts i ≡ Some t
    → walk ps (spots_from a 0 (take (i + 1) ts)) ≡ joined (walk ps (spots_from a 0 (take i ts)))
    (walk ps ((a ++ to.Place i ∷ [], t) ∷ []))
walk-one_more ps a ts i t e =
    let within : i < length ts = slice_get_within ts i t e in
    let more : take (i + 1) ts ≡ take i ts ++ t ∷ [] = take_more ts i t within
    ∙ ap (λ u. take i ts ++ u ∷ []) (get_or_from_slice_get ts i t t e) in
    let place : 0 + length (take i ts) ≡ i = omega (arith, length-take-le i ts (omega arith)) in
    ap (λ us. walk ps (spots_from a 0 us)) more
    ∙ ap (walk ps) (spots_from-append a 0 (take i ts) (t ∷ []))
    ∙ ap (λ n. walk ps (spots_from a 0 (take i ts) ++ (a ++ to.Place n ∷ [], t) ∷ [])) place
    ∙ walk-append ps (spots_from a 0 (take i ts)) ((a ++ to.Place i ∷ [], t) ∷ [])

pub AddsHits-one_more : (values : Option (List Scalar)) (ps : List PathStep) (a : Address) (ts : List Tree)
    (i : ℕ) (t : Tree) (right : Bool) (xs0 xs1 xs2 : List Address) → slice_get ts i ≡ Some t
    → AddsHits values (walk ps (spots_from a 0 (take i ts))) true xs0 xs1
    → AddsHits values (walk ps ((a ++ to.Place i ∷ [], t) ∷ [])) right xs1 xs2
    → AddsHits values (walk ps (spots_from a 0 (take (i + 1) ts))) right xs0 xs2
AddsHits-one_more values ps a ts i t right xs0 xs1 xs2 e h k =
    subst (λ w. AddsHits values w right xs0 xs2) (sym (walk-one_more ps a ts i t e))
    (AddsHits-joined values _ _ right xs0 xs1 xs2 h k)

pub AddsHits-wrong_part : (values : Option (List Scalar)) (ps : List PathStep) (a : Address) (ts : List Tree)
    (i : ℕ) (xs0 xs1 : List Address)
    → AddsHits values (walk ps (spots_from a 0 (take i ts))) false xs0 xs1
    → AddsHits values (walk ps (spots_from a 0 ts)) false xs0 xs1
AddsHits-wrong_part values ps a ts i xs0 xs1 h =
    let all : walk ps (spots_from a 0 ts) ≡ joined (walk ps (spots_from a 0 (take i ts)))
    (walk ps (spots_from a (0 + length (take i ts)) (drop i ts))) =
    ap (λ us. walk ps (spots_from a 0 us)) (sym (take-append-drop i ts))
    ∙ ap (walk ps) (spots_from-append a 0 (take i ts) (drop i ts)) ∙ walk-append ps _ _ in
    subst (λ w. AddsHits values w false xs0 xs1) (sym all) (AddsHits-wrong values _ _ xs0 xs1 h)

-- nothing is added where nothing is selected
pub AddsHits-nothing : (values : Option (List Scalar)) (steps : List PathStep) (p : PathStep)
    (ps : List PathStep) (s : Spot) (xs0 : List Address) → steps ≡ p ∷ ps → step p s ≡ Some []
    → AddsHits values (walk steps (s ∷ [])) true xs0 xs0
AddsHits-nothing values steps p ps s xs0 e h =
    let w : walk steps (s ∷ []) ≡ Some [] = ap (λ ss. walk ss (s ∷ [])) e ∙ walk-one p ps s
    ∙ ap (option_and_then (walk ps)) h ∙ walk-nothing ps in
    subst (λ x. AddsHits values x true xs0 xs0) (sym w) (refl, sym (append-nil xs0))

-- what a step makes of an element is gone on with
pub AddsHits-step : (values : Option (List Scalar)) (steps : List PathStep) (p : PathStep)
    (ps : List PathStep) (s : Spot) (ss : List Spot) (right : Bool) (xs0 xs1 : List Address) → steps ≡ p ∷ ps
    → step p s ≡ Some ss
    → AddsHits values (walk ps ss) right xs0 xs1 → AddsHits values (walk steps (s ∷ [])) right xs0 xs1
AddsHits-step values steps p ps s ss right xs0 xs1 e h k =
    let w : walk steps (s ∷ []) ≡ walk ps ss = ap (λ qs. walk qs (s ∷ [])) e ∙ walk-one p ps s
    ∙ ap (option_and_then (walk ps)) h in
    subst (λ x. AddsHits values x right xs0 xs1) (sym w) k

pub AddsHits-wrong_step : (values : Option (List Scalar)) (steps : List PathStep) (p : PathStep)
    (ps : List PathStep) (s : Spot) (xs0 xs1 : List Address) → steps ≡ p ∷ ps → step p s ≡ None
    → AddsHits values (walk steps (s ∷ [])) false xs0 xs1
AddsHits-wrong_step values steps p ps s xs0 xs1 e h =
    let w : walk steps (s ∷ []) ≡ None = ap (λ qs. walk qs (s ∷ [])) e ∙ walk-one p ps s
    ∙ ap (option_and_then (walk ps)) h in
    subst (λ x. AddsHits values x false xs0 xs1) (sym w) refl

-- what was pushed last goes
pub popped : {A : Type 0} (xs : List A) (x : A) → take (length (xs ++ x ∷ []) - 1) (xs ++ x ∷ []) ≡ xs
popped xs x =
    let n : length (xs ++ x ∷ []) - 1 ≡ length xs = omega (arith, length-append xs (x ∷ [])) in
    ap (λ k. take k (xs ++ x ∷ [])) n ∙ take-append_seam xs (x ∷ [])

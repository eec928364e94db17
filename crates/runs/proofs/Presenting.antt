-- Presentations are made of the signatures that were given for them.
use Rattle.std.proofs.Common.{◌≡◌, ◌∙◌, ◌++◌, inl, inr, ℕ, List, [], ◌∷◌, Some, ap, ap₂, append-nil}
use Rattle.runs.specs.Asked.{Answered, answered, Goes}
use Rattle.runs.specs.Presented.{Asking, present, made, given_for, PresentsEach}
use Rattle.runs.specs.Runs.{value}
use Rattle.runs.specs.Signed.{Signature, signatures}
use Rattle.runs.specs.Tree.{gives, sign, each}
use Rattle.runs.proofs.Going.{goes_through, signatures_of_both}

abbrev given_by : {X : Type 0} → (X → Asking) → X → List ℕ → Signature
given_by ask x s = record { name = (ask x).name; message = (ask x).message; bytes = s }

-- one presentation asks for one signature
one_signed : {X Y : Type 0} (R : Type 0) (ask : X → Asking) (make : X → List ℕ → Y) (x : X)
    (log : List Answered) (y : Y) → Goes {R = R} (present ask make x) log (value y)
    → (s : List ℕ) × (y ≡ make x s)
    × (signatures log ≡ given_by ask x s ∷ [])
unfolding Goes
one_signed R ask make x log y (inl (s, rest, is, goes)) = (
  s,
  goes.1,
  ap signatures (is ∙ ap (λ (l : List Answered).
      answered (sign (ask x).name (ask x).message) (Some s) ∷ l) goes.0),
)
one_signed R ask make x log y (inr (inl faulted)) = absurd faulted.1
one_signed R ask make x log y (inr (inr given_up)) = absurd given_up.1

nothing_after : {Y : Type 0} (R : Type 0) (wanted shown : Y) (log : List Answered)
    → Goes {R = R} (gives wanted) log (value shown) → (log ≡ []) × (shown ≡ wanted)
unfolding Goes
nothing_after R wanted shown log goes = goes

signed_both : (log one two : List Answered) (first second : List Signature) → log ≡ one ++ two
    → signatures one ≡ first → signatures two ≡ second → signatures log ≡ first ++ second
signed_both log one two first second is a b = ap signatures is ∙ signatures_of_both one two
    ∙ ap₂ (λ (x y : List Signature). x ++ y) a b

signed_alone : (log one two : List Answered) (first : List Signature) → log ≡ one ++ two
    → signatures one ≡ first → signatures two ≡ [] → signatures log ≡ first
signed_alone log one two first is a b = signed_both log one two first [] is a b ∙ append-nil first

made_both : {X Y : Type 0} (make : X → List ℕ → Y) (x : X) (xs : List X) (ys : List Y) (y : Y) (more : List Y)
    (s : List ℕ) (given : List (List ℕ)) → ys ≡ y ∷ more → y ≡ make x s → more ≡ made make xs given
    → ys ≡ made make (x ∷ xs) (s ∷ given)
made_both make x xs ys y more s given is one others =
    is ∙ ap₂ (λ (y : _) (more : List _). y ∷ more) one others

pub presents_each : {X Y : Type 0} (R : Type 0) → PresentsEach R X Y
unfolding each
presents_each R ask make [] log ys goes =
    let p = nothing_after R [] ys log goes in
    ([], p.1, ap signatures p.0)
presents_each R ask make (x ∷ xs) log ys goes =
    let first = goes_through {R = R} (present ask make x) _ log ys goes in
    let rest = goes_through {R = R} (each (present ask make) xs) _ first.2 ys first.5 in
    let end = nothing_after R (first.0 ∷ rest.0) ys rest.2 rest.5 in
    let one = one_signed R ask make x first.1 first.0 first.4 in
    let others = presents_each R ask make xs rest.1 rest.0 rest.4 in (
      one.0 ∷ others.0,
      made_both make x xs ys first.0 rest.0 one.0 others.0 end.1 one.1 others.1,
      signed_both log first.1 first.2 (given_by ask x one.0 ∷ []) (given_for ask xs others.0) first.3 one.2
          (signed_alone first.2 rest.1 rest.2 (given_for ask xs others.0) rest.3 others.2
          (ap signatures end.0)),
    )

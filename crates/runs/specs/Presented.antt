-- Presentations that are made of a signature each, one after another.
use Rattle.std.specs.Prelude.{◌≡◌, ℕ, List, [], ◌∷◌}
use Rattle.runs.specs.Asked.{Answered, Goes}
use Rattle.runs.specs.Runs.{value}
use Rattle.runs.specs.Signed.{Signature, signatures}
use Rattle.runs.specs.Tree.{Tree, gives, needs, sign, each}

-- what is signed for a presentation, and under which name
pub record Asking : Type 0 where
  pub name : List ℕ
  pub message : List ℕ

-- a presentation is made of the signature that the device gives for it
abbrev pub present : {R X Y : Type 0} → (X → Asking) → (X → List ℕ → Y) → X → Tree R Y
present ask make x = needs (sign (ask x).name (ask x).message) (λ signature. gives (make x signature))

-- the presentations, by the signatures
abbrev pub made : {X Y : Type 0} → (X → List ℕ → Y) → List X → List (List ℕ) → List Y
made make [] given = []
made make (x ∷ xs) [] = []
made make (x ∷ xs) (s ∷ given) = make x s ∷ made make xs given

-- what each signature was given for
abbrev pub given_for : {X : Type 0} → (X → Asking) → List X → List (List ℕ) → List Signature
given_for ask [] given = []
given_for ask (x ∷ xs) [] = []
given_for ask (x ∷ xs) (s ∷ given) =
    record { name = (ask x).name; message = (ask x).message; bytes = s } ∷ given_for ask xs given

-- The presentations are those of a list of signatures, which are, presentation by presentation, all that was
-- signed.
abbrev pub PresentsEach : Type 0 → Type 0 → Type 0 → Type 0
PresentsEach R X Y = (ask : X → Asking) (make : X → List ℕ → Y) (xs : List X) (log : List Answered)
    (ys : List Y)
    → Goes (each {R = R} (present ask make) xs) log (value ys)
    → (given : List (List ℕ)) × (ys ≡ made make xs given) × (signatures log ≡ given_for ask xs given)

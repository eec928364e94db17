-- Pairs of fixed names.
use Rattle.std.proofs.Common.{◌≡◌, ℕ, List, [], ◌∷◌, refl}
use Rattle.mdoc_written.specs.Containers.{named}

pub six_named : (k l m n o p : List ℕ) {a b c d e f g h i j r s : List ℕ} → a ≡ g → b ≡ h → c ≡ i → d ≡ j
    → e ≡ r → f ≡ s
    → named k a ∷ named l b ∷ named m c ∷ named n d ∷ named o e ∷ named p f ∷ []
    ≡ named k g ∷ named l h ∷ named m i ∷ named n j ∷ named o r ∷ named p s ∷ []
six_named k l m n o p t u v w x y = rw (t, u, v, w, x, y) refl

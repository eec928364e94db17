-- A text without the line feed at its end.
use Rattle.std.proofs.Common.{◌≡◌, ℕ, ◌==◌, List, [], ◌∷◌, ◌++◌, Bool, true, false, cond, refl, ap}
use Rattle.std.proofs.lemmas.Bool.{eqb-true}
use Rattle.wallet_files.specs.CredentialFile.{without_feed}

feed_after : (byte : ℕ) (front : List ℕ) → without_feed (front ++ 10 ∷ []) ≡ front
    → without_feed (byte ∷ front ++ 10 ∷ []) ≡ byte ∷ front
feed_after byte [] later = refl
feed_after byte (next ∷ front) later = ap (λ t. byte ∷ t) later

pub feed_is_cut : (front : List ℕ) → without_feed (front ++ 10 ∷ []) ≡ front
feed_is_cut [] = refl
feed_is_cut (byte ∷ front) = feed_after byte front (feed_is_cut front)

last_stays : (byte : ℕ) (is_feed : Bool) → (byte == 10) ≡ is_feed → ((byte ∷ [] ≡ 10 ∷ []) → ⊥)
    → cond is_feed [] (byte ∷ []) ≡ byte ∷ []
last_stays byte true is none = absurd (none (ap (λ b. b ∷ []) (eqb-true byte 10 is)))
last_stays byte false is none = refl

pub no_feed_stays : (text : List ℕ) → ((front : List ℕ) → (text ≡ front ++ 10 ∷ []) → ⊥)
    → without_feed text ≡ text
no_feed_stays [] none = refl
no_feed_stays (byte ∷ []) none = last_stays byte (byte == 10) refl (none [])
no_feed_stays (byte ∷ next ∷ text) none =
    ap (λ t. byte ∷ t) (no_feed_stays (next ∷ text) (λ front e. none (byte ∷ front) (ap (λ t. byte ∷ t) e)))

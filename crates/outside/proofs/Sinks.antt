-- One write after another.
use Rattle.std.proofs.Common.{◌≡◌, ◌<◌, ◌++◌, ◌∙◌, List, [], ◌∷◌, ℕ, Option, None, Some, length, option_map}
use Rattle.std.proofs.Common.{ap, refl, arith, append_assoc}
use Rattle.outside.specs.Sink.{Appends, with_piece}

pub appends_after : (old mid new : Option (List ℕ)) (first second : List ℕ) → Appends old mid first
    → Appends mid new second → Appends old new (first ++ second)
appends_after None mid new first second one two = two ∙ ap (option_map (λ told. told ++ second)) one
appends_after (Some told) mid new first second one two =
    two ∙ ap (option_map (λ told. told ++ second)) one
    ∙ ap (λ (t : List ℕ). Some t) (append_assoc told first second)

-- a piece that is not empty is not counted as one
pub piece_counts : (bytes : List ℕ) (old : Option ℕ) → 0 < length bytes
    → option_map (with_piece bytes) old ≡ old
piece_counts [] old some = absurd (omega (arith, some))
piece_counts (byte ∷ bytes) None some = refl
piece_counts (byte ∷ bytes) (Some count) some = refl

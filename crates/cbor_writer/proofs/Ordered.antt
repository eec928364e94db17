-- What is sorted through a function is sorted after it.
use Rattle.std.proofs.Common.{◌+◌, ◌<◌, Bool, List, [], ◌∷◌, length, map, get_or, ap, ◌∙◌, arith}
use Rattle.std.specs.List.Sorted.{IsSortedBy}
use Rattle.std.proofs.lemmas.List.{get_or-map, length-map}

pub sorted-map : {X Y : Type 0} (f : X → Y) (lt : Y → Y → Bool) (xs : List X)
    → IsSortedBy (λ a b. lt (f a) (f b)) xs → IsSortedBy lt (map f xs)
sorted-map f lt [] s = λ k d low within. absurd (omega arith)
sorted-map f lt (x ∷ xs) s = λ k d low within.
    let long : k + 1 < length (x ∷ xs) = omega (arith, length-map (x ∷ xs) f) in
    ap (λ a. lt a (get_or (map f (x ∷ xs)) k d)) (get_or-map f (x ∷ xs) (k + 1) x d long)
    ∙ ap (λ b. lt (f (get_or (x ∷ xs) (k + 1) x)) b) (get_or-map f (x ∷ xs) k x d (omega arith))
    ∙ s k x low long

-- Lists that are read one by one.
use Rattle.std.proofs.Common.{◌≡◌, List, [], ◌∷◌, ◌++◌, map, Option, Some, None, option_map, option_and_then}
use Rattle.std.proofs.Common.{refl, sym, ap, ◌∙◌, append_assoc}
use Rattle.std.proofs.lemmas.List.{map-append}
use Rattle.owned_tree.specs.Prefixed.{prefixed}

-- one more was read, with the others after it
pub one_more : {A X : Type 0} (f : A → X) (xs ys : List A) (x : A) (o : Option (List X)) → ys ≡ xs ++ x ∷ []
    → prefixed (map f ys) o ≡ prefixed (map f xs) (option_map (λ zs. f x ∷ zs) o)
one_more f xs ys x None is = refl
one_more f xs ys x (Some zs) is =
    ap Some (ap (λ l. map f l ++ zs) is ∙ ap (λ l. l ++ zs) (map-append f xs (x ∷ []))
    ∙ append_assoc (map f xs) (f x ∷ []) zs)

-- what is read of the rest comes behind what was read first
pub behind_first : {X : Type 0} (first : Option X) (x : X) (rest : Option (List X)) → first ≡ Some x
    → option_map (λ zs. x ∷ zs) rest ≡ option_and_then (λ y. option_map (λ zs. y ∷ zs) rest) first
behind_first first x rest h = sym (ap (λ o. option_and_then (λ y. option_map (λ zs. y ∷ zs) rest) o) h)

-- Options that are there, step by step.
use Rattle.std.proofs.Common.{◌≡◌, Option, Some, None, option_map, option_and_then, refl}

pub split : {A B : Type 0} (f : A → Option B) (o : Option A) (y : B) → option_and_then f o ≡ Some y
    → (x : A) × (o ≡ Some x) × (f x ≡ Some y)
split f (Some x) y e = (x, refl, e)
split f None y e = absurd cc

pub split_map : {A B : Type 0} (f : A → B) (o : Option A) (y : B) → option_map f o ≡ Some y
    → (x : A) × (o ≡ Some x) × (f x ≡ y)
split_map f (Some x) y e = (x, refl, cc)
split_map f None y e = absurd cc

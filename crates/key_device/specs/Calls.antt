-- What a device of keys is asked: to sign a message, and to judge a signature.
use Rattle.std.specs.Prelude.{◌≡◌, ℕ, Bool, List, [], ◌∷◌, ◌++◌, Option, Some, IfSome, option_map}
use Rattle.claim_tree.specs.Credential.{Algorithm}
use Rattle.claim_tree.specs.declared.algorithm.SignAlg.{SignAlg}

-- `signs name message given`: a signature of this message by the key of this name, and the signature that was
-- given, if one was.
-- `judges name algorithm message signature`: whether this is a signature of this message by that key.
pub data Call : Type 0 where
  signs : List ℕ → List ℕ → Option (List ℕ) → Call
  judges : List ℕ → Algorithm → List ℕ → List ℕ → Call

-- the names of the keys that a device holds, each with its algorithm
abbrev pub Held : Type 0
Held = List ℕ → Option SignAlg

-- what a device judges yes: a name, an algorithm, a message and a signature
abbrev pub Judges : Type 0
Judges = List ℕ → Algorithm → List ℕ → List ℕ → Bool

-- Calls that are told grew by these. A device may stop telling them, and then never tells them again.
abbrev pub Grew : Option (List Call) → Option (List Call) → List Call → Type 0
Grew old new calls = IfSome new (λ told. option_map (λ earlier. earlier ++ calls) old ≡ Some told)

-- they grew by this one, once
abbrev pub Tells : Option (List Call) → Option (List Call) → Call → Type 0
Tells old new call = Grew old new (call ∷ [])

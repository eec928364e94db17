-- A device of keys at one moment, and what one call of it leaves and answers.
use Rattle.std.specs.Prelude.{◌≡◌, ℕ, Bool, true, false, List, Option, Some, None, Result, Ok, Err, Vec, ⊤}
use Rattle.std.specs.Prelude.{IsSomeAnd}
use Rattle.std.specs.declared.alloc.Global.{Global}
use Rattle.outside.specs.Calls.{Given, gave, failed, exhausted, Counts}
use Rattle.claim_tree.specs.SignAlg.{jose_name, cose_number}
use Rattle.claim_tree.specs.declared.algorithm.SignAlg.{SignAlg}
use Rattle.claim_tree.specs.Credential.{Algorithm, jose, cose}
use Rattle.key_device.specs.Calls.{Call, signs, judges, Held, Judges, Tells}
use Rattle.key_device.specs.declared.device.Judged.{Judged}
use Rattle.key_device.specs.declared.device.Judged.TheVariants as answer
use Rattle.key_device.specs.declared.device.SignError.{SignError}
use Rattle.key_device.specs.declared.device.SignError.TheVariants as error

-- The names that it holds, each with its algorithm; what it judges yes; its calls, where it tells them; and a
-- count of faults.
pub record DeviceState : Type 0 where
  pub held : Held
  pub judged : Judges
  pub calls : Option (List Call)
  pub faults : ℕ

-- ---- judging

abbrev pub judged_as : Judged → Given Bool
judged_as answer.Yes = gave true
judged_as answer.No = gave false
judged_as answer.Failed = failed

-- yes and no are as the device judges
abbrev pub Follows : Bool → Given Bool → Type 0
Follows is_yes (gave said) = said ≡ is_yes
Follows is_yes failed = ⊤
Follows is_yes exhausted = ⊤

-- The device was asked whether this is a signature of the message by the key of this name in this algorithm,
-- once and nothing else, and said this. What it holds and what it judges yes stay.
pub record IsJudged (name : List ℕ) (alg : Algorithm) (message signature : List ℕ) (old new : DeviceState)
    (said : Given Bool) : Type 0 where
  pub held : new.held ≡ old.held
  pub judged : new.judged ≡ old.judged
  pub verdict : Follows (old.judged name alg message signature) said
  pub asked : Tells old.calls new.calls (judges name alg message signature)
  pub counts : Counts old.faults new.faults said

-- ---- signing

abbrev pub signature_given : Result (Vec ℕ Global) SignError → Given (List ℕ)
signature_given (Ok bytes) = gave bytes.items
signature_given (Err error.Failed) = failed
signature_given (Err error.NoMemory) = exhausted

-- the signature, if one was given
abbrev pub signature_in : Given (List ℕ) → Option (List ℕ)
signature_in (gave signature) = Some signature
signature_in failed = None
signature_in exhausted = None

-- it is judged yes under both names of the algorithm
pub record IsYes (judged : Judges) (name : List ℕ) (alg : SignAlg) (message signature : List ℕ) : Type 0 where
  pub in_jws : judged name (jose (jose_name alg)) message signature ≡ true
  pub in_cose : judged name (cose (cose_number alg)) message signature ≡ true

-- the name is held, and the signature is judged yes under it, in the algorithm of its key
abbrev pub IsGenuine : Held → Judges → List ℕ → List ℕ → List ℕ → Type 0
IsGenuine held judged name message signature = IsSomeAnd (held name) (λ alg.
    IsYes judged name alg message signature)

abbrev pub Gives : Held → Judges → List ℕ → List ℕ → Given (List ℕ) → Type 0
Gives held judged name message (gave signature) = IsGenuine held judged name message signature
Gives held judged name message failed = ⊤
Gives held judged name message exhausted = ⊤

-- what was judged yes still is
abbrev pub OnlyAdds : Judges → Judges → Type 0
OnlyAdds before now =
    (name : List ℕ) (alg : Algorithm) (message signature : List ℕ)
    → before name alg message signature ≡ true → now name alg message signature ≡ true

-- The device was asked for a signature of this message by the key of this name, once and nothing else, and
-- what it gave is judged yes from then on. What it holds stays, and so does all that it judged yes.
pub record IsSigned (name message : List ℕ) (old new : DeviceState) (answer : Given (List ℕ)) : Type 0 where
  pub held : new.held ≡ old.held
  pub kept : OnlyAdds old.judged new.judged
  pub signed : Gives old.held new.judged name message answer
  pub asked : Tells old.calls new.calls (signs name message (signature_in answer))
  pub counts : Counts old.faults new.faults answer

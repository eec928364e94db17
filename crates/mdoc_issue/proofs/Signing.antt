-- The run in which the device signs.
use Rattle.std.proofs.Common.{◌≡◌, ◌<◌, ◌^◌, List, ℕ, length, Option, Some, None, refl, ap, subst, Err}
use Rattle.std.specs.Prelude.{IsSomeAnd}
use Rattle.claim_tree.specs.declared.algorithm.SignAlg.{SignAlg}
use Rattle.outside.specs.Calls.{gave, failed, exhausted}
use Rattle.key_device.specs.Calls.{Held, Judges}
use Rattle.key_device.specs.Device.{DeviceState, IsSigned, IsYes, IsGenuine, signature_given}
use Rattle.key_device.specs.declared.device.SignError.{SignError}
use Rattle.key_device.specs.declared.device.SignError.TheVariants as sign
use Rattle.runs.specs.Runs.{value, refused, out_of_memory, Runs}
use Rattle.runs.specs.World.{World}
use Rattle.runs.proofs.Trees.{runs_as, runs_gives, runs_out, runs_stops}
use Rattle.runs.proofs.Questions.{runs_sign, runs_sign_fault, runs_sign_out}
use Rattle.mdoc_issue.specs.Asked.{IssuedIsAsked}
use Rattle.mdoc_issue.specs.Endings.{IsIssued}
use Rattle.mdoc_issue.specs.Issued.{message_for, document_for}
use Rattle.mdoc_issue.specs.Issuing.{key_missing, sign_tree, early}
use Rattle.mdoc_issue.specs.Spec.{Spec, IsMdocSpec}
use Rattle.mdoc_issue.specs.code.Unsigned.{unsigned}

pub is_issued : IssuedIsAsked → (s : Spec) (alg : SignAlg) (held : Held) (judged : Judges)
    (signature bytes : List ℕ) → IsMdocSpec s → held s.key_name ≡ Some alg
    → bytes ≡ document_for s alg signature → length bytes < 2 ^ 64
    → IsGenuine held judged s.key_name (message_for s alg) signature → IsIssued s held judged bytes
is_issued law s alg held judged signature bytes asked key is short genuine = record {
  alg = alg;
  signature = signature;
  holds = key;
  bytes_are = is;
  yes = subst (λ (o : Option SignAlg). IsSomeAnd o (λ a.
      IsYes judged s.key_name a (message_for s alg) signature)) key genuine;
  reads = law s alg signature asked (subst (λ (b : List ℕ). length b < 2 ^ 64) is short);
}

-- ---- the run

pub runs_missing : (s : Spec) (key : Option SignAlg) (w : World) → key ≡ None
    → Runs (sign_tree s key) w w (refused key_missing)
runs_missing s key w is =
    runs_as _ _ w w (refused key_missing) (ap (sign_tree s) is) (runs_stops _ key_missing key_missing w refl)

module _ (s : Spec) (key : Option SignAlg) (alg : SignAlg) (is_key : key ≡ Some alg) where
  module _ (message : List ℕ) (is_message : message ≡ message_for s alg) (old new : DeviceState)
      (w : World) where
    -- the device gave a signature, and the document was made of it
    pub runs_made : (signature bytes : List ℕ)
        → IsSigned s.key_name message old new (gave signature) → bytes ≡ document_for s alg signature
        → Runs (sign_tree s key) (record w { device = old }) (record w { device = new }) (value bytes)
    runs_made signature bytes signed is =
        runs_as _ _ _ _ (value bytes) (ap (sign_tree s) is_key)
        (runs_sign s.key_name (message_for s alg) _ old new signature w (value bytes)
        (subst (λ (m : List ℕ). IsSigned s.key_name m old new (gave signature)) is_message signed)
        (runs_gives _ _ bytes _ is))

    -- memory ran out for the document
    pub runs_unmade : (signature : List ℕ) → IsSigned s.key_name message old new (gave signature)
        → Runs (sign_tree s key) (record w { device = old }) (record w { device = new }) out_of_memory
    runs_unmade signature signed =
        runs_as _ _ _ _ out_of_memory (ap (sign_tree s) is_key)
        (runs_sign s.key_name (message_for s alg) _ old new signature w out_of_memory
        (subst (λ (m : List ℕ). IsSigned s.key_name m old new (gave signature)) is_message signed)
        (runs_out _ _))

    -- it gave none
    pub runs_unsigned : (error : SignError)
        → IsSigned s.key_name message old new (signature_given (Err error))
        → Runs (sign_tree s key) (record w { device = old }) (record w { device = new })
        (early (unsigned error))
    runs_unsigned sign.Failed signed =
        runs_as _ _ _ _ _ (ap (sign_tree s) is_key)
        (runs_sign_fault s.key_name (message_for s alg) _ old new w
        (subst (λ (m : List ℕ). IsSigned s.key_name m old new failed) is_message signed))
    runs_unsigned sign.NoMemory signed =
        runs_as _ _ _ _ _ (ap (sign_tree s) is_key)
        (runs_sign_out s.key_name (message_for s alg) _ old new w
        (subst (λ (m : List ℕ). IsSigned s.key_name m old new exhausted) is_message signed))

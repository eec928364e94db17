-- How issuing ends (ISO/IEC 18013-5, section 9.1.2.4): with a document that reads as the credential that was
-- asked, of which the device judges the issuer's signature yes, or with the reason against it.
use Rattle.std.specs.Prelude.{◌≡◌, ◌<◌, ◌^◌, ⊤, ℕ, true, List, length, Some, None, is_some}
use Rattle.claim_tree.specs.declared.algorithm.SignAlg.{SignAlg}
use Rattle.key_device.specs.Calls.{Held, Judges}
use Rattle.key_device.specs.Device.{IsYes}
use Rattle.runs.specs.Runs.{Ending, value, refused, fault, out_of_memory, Runs}
use Rattle.runs.specs.World.{World}
use Rattle.runs.specs.declared.fault.Fault.TheVariants.{Device}
use Rattle.mdoc_issue.specs.Asked.{ReadsAsAsked}
use Rattle.mdoc_issue.specs.Issued.{message_for, document_for}
use Rattle.mdoc_issue.specs.Issuing.{Refusal, key_missing, issue_tree}
use Rattle.mdoc_issue.specs.Spec.{Spec, IsMdocSpec}

-- ---- what is issued

-- The document has a signature that is judged yes under the issuer's name, in the algorithm that its key is
-- held for. It reads as the credential that was asked, which has this signature.
pub record IsIssued (s : Spec) (held : Held) (judged : Judges) (bytes : List ℕ) : Type 0 where
  pub alg : SignAlg
  pub signature : List ℕ
  pub holds : held s.key_name ≡ Some alg
  pub bytes_are : bytes ≡ document_for s alg signature
  pub yes : IsYes judged s.key_name alg (message_for s alg) signature
  pub reads : ReadsAsAsked s alg signature

-- ---- every run

-- The same, where the spec is one that may be asked and CBOR can say the length of the document.
pub record ReadsOnceWritten (s : Spec) (held : Held) (judged : Judges) (bytes : List ℕ) : Type 0 where
  pub alg : SignAlg
  pub signature : List ℕ
  pub holds : held s.key_name ≡ Some alg
  pub bytes_are : bytes ≡ document_for s alg signature
  pub yes : IsYes judged s.key_name alg (message_for s alg) signature
  pub reads : IsMdocSpec s → length bytes < 2 ^ 64 → ReadsAsAsked s alg signature

-- With a document or by the device's fault where the issuer's key is held, and with its refusal where it is
-- not. Memory may run out.
abbrev pub EndsAs : Spec → Held → Judges → Ending Refusal (List ℕ) → Type 0
EndsAs s held judged (value bytes) = ReadsOnceWritten s held judged bytes
EndsAs s held judged (refused reason) = (held s.key_name ≡ None) × (reason ≡ key_missing)
EndsAs s held judged (fault object) = (is_some (held s.key_name) ≡ true) × (object ≡ Device)
EndsAs s held judged out_of_memory = ⊤

-- A run ends by what the device holds before it and judges yes after it.
abbrev pub EndsAsAsked : Type 0
EndsAsAsked = (s : Spec) (before after : World) (end : Ending Refusal (List ℕ))
    → Runs (issue_tree before.device.held s) before after end
    → EndsAs s before.device.held after.device.judged end

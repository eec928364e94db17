-- How issuing ends (RFC 9901, section 4): with a text that reads as the credential that was asked, of which
-- the device judges the issuer's signature yes, or with the first reason against it.
use Rattle.std.specs.Prelude.{◌≡◌, ⊤, true, List, ℕ, Some, None, Result, Ok, Err, String, string_bytes}
use Rattle.std.specs.declared.alloc.Global.{Global}
use Rattle.base64.specs.GeneralPurpose.{IsBytes}
use Rattle.base_forms.specs.Texts.{Utf8}
use Rattle.claim_tree.specs.Credential.{Credential}
use Rattle.claim_tree.specs.declared.algorithm.SignAlg.{SignAlg}
use Rattle.key_device.specs.Calls.{Held, Judges}
use Rattle.key_device.specs.Device.{IsYes}
use Rattle.runs.specs.Runs.{Ending, value, refused, fault, out_of_memory, Runs}
use Rattle.runs.specs.World.{World}
use Rattle.runs.specs.declared.fault.Fault.TheVariants.{Device}
use Rattle.sdjwt_issue.specs.Spec.{Spec, IsSdJwtSpec}
use Rattle.sdjwt_issue.specs.Asked.{input_for, text_for, AreReadBack, ReadsAsAsked}
use Rattle.sdjwt_issue.specs.Issuing.{Refusal, shared_digest, key_missing, issue_rule, issue_tree}
use Rattle.sdjwt_issue.specs.declared.error.Error.{Error}
use Rattle.sdjwt_issue.specs.declared.error.Error.TheVariants.{SharedDigest, KeyMissing, DeviceFault}
use Rattle.sdjwt_issue.specs.declared.error.Error.TheVariants.{NoMemory}

-- ---- by what a call answers

abbrev pub early : Error → Ending Refusal Utf8
early SharedDigest = refused shared_digest
early KeyMissing = refused key_missing
early DeviceFault = fault Device
early NoMemory = out_of_memory

abbrev pub ending : Result (String Global) Error → Ending Refusal Utf8
ending (Ok text) = value (string_bytes text)
ending (Err error) = early error

-- ---- what is issued

-- the seal is one of the issuer
abbrev pub IsSealYes : Judges → Credential → Type 0
IsSealYes judged c = judged c.issuer c.seal.algorithm c.seal.message c.seal.signature ≡ true

-- The text has a signature that is judged yes under the issuer's name, in the algorithm that its key is held
-- for.
pub record IsSealed (s : Spec) (held : Held) (judged : Judges) (text : Utf8) : Type 0 where
  pub alg : SignAlg
  pub signature : List ℕ
  pub holds : held s.key_name ≡ Some alg
  pub text_is : text ≡ text_for s alg signature
  pub yes : IsYes judged s.key_name alg (input_for s alg) signature

-- It reads as the credential that was asked, whose seal is judged yes under its issuer's name.
pub record IsIssued (s : Spec) (held : Held) (judged : Judges) (text : Utf8) : Type 0 where
  pub sealed : IsSealed s held judged text
  pub reads : ReadsAsAsked s sealed.alg sealed.signature
  pub genuine : IsSealYes judged reads.credential

-- ---- every run

-- It reads as the credential that was asked where the device gave bytes, and where header, payload and each
-- disclosure are read back as they were written.
pub record ReadsOnceWritten (s : Spec) (held : Held) (judged : Judges) (text : Utf8) : Type 0 where
  pub sealed : IsSealed s held judged text
  pub reads : IsBytes sealed.signature → AreReadBack s sealed.alg
      → ReadsAsAsked s sealed.alg sealed.signature

-- With a text where there is no reason against it, and with the first reason where there is one. Where the
-- device failed there is none; memory may run out.
abbrev pub EndsAs : Spec → Held → Judges → Ending Refusal Utf8 → Type 0
EndsAs s held judged (value text) = (issue_rule held s ≡ None) × ReadsOnceWritten s held judged text
EndsAs s held judged (refused reason) = issue_rule held s ≡ Some reason
EndsAs s held judged (fault object) = (issue_rule held s ≡ None) × (object ≡ Device)
EndsAs s held judged out_of_memory = ⊤

-- A run ends by what the device holds before it and judges yes after it.
abbrev pub EndsAsAsked : Type 0
EndsAsAsked = (s : Spec) (before after : World) (end : Ending Refusal Utf8) → IsSdJwtSpec s
    → Runs (issue_tree before.device.held s) before after end
    → EndsAs s before.device.held after.device.judged end

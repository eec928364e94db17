-- Issuing a mobile document by a device that holds the issuer's key (ISO/IEC 18013-5, section 9.1.2.4): what
-- the device is asked, and how issuing ends.
use Rattle.std.specs.Prelude.{List, ℕ, Option, Some, None, Result, Ok, Err, Vec}
use Rattle.std.specs.declared.alloc.Global.{Global}
use Rattle.claim_tree.specs.declared.algorithm.SignAlg.{SignAlg}
use Rattle.key_device.specs.Calls.{Held}
use Rattle.runs.specs.Runs.{Ending, value, refused, fault, out_of_memory}
use Rattle.runs.specs.Tree.{Tree, gives, stops, needs, sign}
use Rattle.runs.specs.declared.fault.Fault.TheVariants.{Device}
use Rattle.mdoc_issue.specs.Issued.{message_for, document_for}
use Rattle.mdoc_issue.specs.Spec.{Spec}
use Rattle.mdoc_issue.specs.declared.error.Error.{Error}
use Rattle.mdoc_issue.specs.declared.error.Error.TheVariants.{KeyMissing, DeviceFault, NoMemory}

-- why nothing is issued: the device does not hold the issuer's key
pub data Refusal : Type 0 where
  key_missing : Refusal

-- A signature is asked for, and the document has it. The algorithm is that of the issuer's key, where it is
-- held.
abbrev pub sign_tree : Spec → Option SignAlg → Tree Refusal (List ℕ)
sign_tree s None = stops key_missing
sign_tree s (Some alg) =
    needs (sign s.key_name (message_for s alg)) (λ signature. gives (document_for s alg signature))

-- The device is asked for one signature, exactly where it holds the issuer's key.
abbrev pub issue_tree : Held → Spec → Tree Refusal (List ℕ)
issue_tree held s = sign_tree s (held s.key_name)

-- ---- how it ends, by what a call answers

abbrev pub early : Error → Ending Refusal (List ℕ)
early KeyMissing = refused key_missing
early DeviceFault = fault Device
early NoMemory = out_of_memory

abbrev pub ending : Result (Vec ℕ Global) Error → Ending Refusal (List ℕ)
ending (Ok bytes) = value bytes.items
ending (Err error) = early error

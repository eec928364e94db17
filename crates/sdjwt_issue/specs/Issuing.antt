-- Issuing an SD-JWT by a device that holds the issuer's key (RFC 9901, section 4; RFC 7515, section 5.1):
-- what the device is asked, and why nothing is issued.
use Rattle.std.specs.Prelude.{[], ◌∷◌, Option, Some, None, if◌then◌else◌}
use Rattle.base_forms.specs.Rules.{first}
use Rattle.base_forms.specs.Texts.{Utf8}
use Rattle.claim_tree.specs.declared.algorithm.SignAlg.{SignAlg}
use Rattle.key_device.specs.Calls.{Held}
use Rattle.runs.specs.Tree.{Tree, gives, stops, needs, sign, unless}
use Rattle.sdjwt_issue.specs.Spec.{Spec}
use Rattle.sdjwt_issue.specs.Asked.{has_own_digests, input_for, text_for}

-- why nothing is issued: two of the disclosures have one digest, or the device does not hold the issuer's key
pub data Refusal : Type 0 where
  shared_digest : Refusal
  key_missing : Refusal

abbrev pub digest_rule : Spec → Option Refusal
digest_rule s = if has_own_digests s then None else Some shared_digest

abbrev pub key_rule : Option SignAlg → Option Refusal
key_rule None = Some key_missing
key_rule (Some alg) = None

-- the first reason why nothing is issued, by a device that holds these names
abbrev pub issue_rule : Held → Spec → Option Refusal
issue_rule held s = first (digest_rule s ∷ key_rule (held s.key_name) ∷ [])

-- A signature is asked for, and the text has it. The algorithm is that of the issuer's key, where it is held.
abbrev pub sign_tree : Spec → Option SignAlg → Tree Refusal Utf8
sign_tree s None = stops key_missing
sign_tree s (Some alg) =
    needs (sign s.key_name (input_for s alg)) (λ signature. gives (text_for s alg signature))

-- The device is asked for one signature, exactly where there is no reason against it.
abbrev pub issue_tree : Held → Spec → Tree Refusal Utf8
issue_tree held s = unless (digest_rule s) (sign_tree s (held s.key_name))

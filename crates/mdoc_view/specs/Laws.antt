-- The computed reading is the standard's relation (ISO/IEC 18013-5), and bytes that break no rule have a
-- reading.
use Rattle.std.specs.Prelude.{◌≡◌, ℕ, List, Some, None}
use Rattle.claim_tree.specs.Credential.{Credential}
use Rattle.mdoc_view.specs.Reading.{credential_in}
use Rattle.mdoc_view.specs.Refusal.{refusal_of}
use Rattle.mdoc_view.specs.Relation.{Reads}

-- Bytes that read as a credential break no rule and say that credential.
abbrev pub ReadIsComputed : Type 0
ReadIsComputed =
    (bytes : List ℕ) (c : Credential) → Reads bytes c
    → (refusal_of bytes ≡ None) × (credential_in bytes ≡ Some c)

-- Bytes that break no rule read as the credential that they say.
abbrev pub ComputedIsRead : Type 0
ComputedIsRead =
    (bytes : List ℕ) (c : Credential) → refusal_of bytes ≡ None → credential_in bytes ≡ Some c → Reads bytes c

-- Bytes that break no rule say a credential.
abbrev pub UnbrokenSays : Type 0
UnbrokenSays =
    (bytes : List ℕ) → refusal_of bytes ≡ None → (c : Credential) × (credential_in bytes ≡ Some c)

-- Bytes read as at most one credential.
abbrev pub ReadsOne : Type 0
ReadsOne = (bytes : List ℕ) (c d : Credential) → Reads bytes c → Reads bytes d → c ≡ d

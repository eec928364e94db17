-- COSE_Sign1 messages as they are written, in deterministic CBOR (RFC 9052, sections 3.1, 4.2 and 4.4; RFC
-- 8949, section 4.2.1).
use Rattle.std.specs.Prelude.{ℕ, pos, List, [], ◌∷◌, ◌++◌, Option, Some, None}
use Rattle.claim_tree.specs.SignAlg.{cose_number}
use Rattle.claim_tree.specs.declared.algorithm.SignAlg.{SignAlg}
use Rattle.cbor_core.specs.Writing.{head_bytes, whole_bytes, byte_string_bytes, null_bytes}

-- the heads of a map of one pair, and of an empty map
abbrev pub one_pair : List ℕ
one_pair = 161 ∷ []

abbrev pub no_pairs : List ℕ
no_pairs = 160 ∷ []

-- the protected headers: the map of label 1, the algorithm
abbrev pub protected_bytes : SignAlg → List ℕ
protected_bytes alg = one_pair ++ whole_bytes (pos 1) ++ whole_bytes (cose_number alg)

-- the unprotected headers: the map of label 4, the key's identifier, where there is one
abbrev pub unprotected_bytes : Option (List ℕ) → List ℕ
unprotected_bytes None = no_pairs
unprotected_bytes (Some kid) = one_pair ++ whole_bytes (pos 4) ++ byte_string_bytes kid

-- the payload, and null where it is detached
abbrev pub payload_bytes : Option (List ℕ) → List ℕ
payload_bytes None = null_bytes
payload_bytes (Some payload) = byte_string_bytes payload

-- the message, under no tag
abbrev pub sign1_bytes : SignAlg → Option (List ℕ) → Option (List ℕ) → List ℕ → List ℕ
sign1_bytes alg kid payload signature =
    head_bytes 4 4 ++ byte_string_bytes (protected_bytes alg) ++ unprotected_bytes kid
    ++ payload_bytes payload ++ byte_string_bytes signature

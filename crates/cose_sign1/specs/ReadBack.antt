-- A COSE_Sign1 message that is written reads as what was meant (RFC 9052, sections 3.1 and 4.4).
use Rattle.std.specs.Prelude.{◌≡◌, ℕ, ◌≤◌, true, List, Option, Some, None, IsSomeAnd}
use Rattle.claim_tree.specs.SignAlg.{cose_number}
use Rattle.claim_tree.specs.declared.algorithm.SignAlg.{SignAlg}
use Rattle.cbor_validity.specs.declared.head.TheConstants.{MAX_DEPTH}
use Rattle.cbor_core.specs.Valid.{IsValid}
use Rattle.cose_sign1.specs.declared.payload.Payload.{Payload}
use Rattle.cose_sign1.specs.Sign1.{Message, message_in, algorithm_of, in_either, key_in, leaf_in, is_where}
use Rattle.cose_sign1.specs.Sign1.{sign1_rule, signed_bytes}
use Rattle.cose_sign1.specs.Writing.{protected_bytes}

-- The message names this algorithm and, by its identifier alone, this key; it has this payload and signature;
-- and what is signed with a payload is what was drafted for it.
pub record Says (alg : SignAlg) (kid payload : Option (List ℕ)) (signature : List ℕ)
    (m : Message) : Type 0 where
  pub algorithm : algorithm_of m ≡ Some (cose_number alg)
  pub key : in_either key_in m ≡ kid
  pub certificate : in_either leaf_in m ≡ None
  pub content : m.payload ≡ payload
  pub seal : m.signature ≡ signature
  pub drafted : (content : List ℕ)
      → signed_bytes m.protected content ≡ signed_bytes (protected_bytes alg) content

-- The bytes are one valid item of two levels. It breaks no rule where the payload is expected to stand as it
-- stands, and says what was meant.
pub record ReadsAs (bytes : List ℕ) (alg : SignAlg) (kid payload : Option (List ℕ)) (signature : List ℕ)
    : Type 0 where
  pub valid : (depth : ℕ) → 2 ≤ depth → depth ≤ MAX_DEPTH → IsValid depth bytes
  pub unbroken : (expected : Payload) → is_where expected payload ≡ true → sign1_rule expected bytes ≡ None
  pub says : IsSomeAnd (message_in bytes) (Says alg kid payload signature)

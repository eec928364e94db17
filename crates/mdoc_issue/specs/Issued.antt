-- A mobile document as its issuer writes it (ISO/IEC 18013-5, sections 8.3.2.1.2.2 and 9.1.2.4; RFC 9052,
-- sections 3.1 and 4.4).
use Rattle.std.specs.Prelude.{List, ℕ, Some}
use Rattle.claim_tree.specs.declared.algorithm.SignAlg.{SignAlg}
use Rattle.cose_sign1.specs.Sign1.{signed_bytes}
use Rattle.cose_sign1.specs.Writing.{protected_bytes, sign1_bytes}
use Rattle.mdoc_issue.specs.Spec.{Spec}
use Rattle.mdoc_object.specs.Namespaces.{WrittenNamespace, written_namespaces, namespaces_bytes}
use Rattle.mdoc_object.specs.SecurityObject.{ObjectParts, payload_bytes, issuer_signed_bytes}

abbrev pub parts_for : Spec → ObjectParts
parts_for s = record { kind = s.kind; from = s.from; until = s.until; key = s.holder }

abbrev pub namespaces_for : Spec → List WrittenNamespace
namespaces_for s = written_namespaces s.namespaces

-- the mobile security object
abbrev pub payload_for : Spec → List ℕ
payload_for s = payload_bytes (parts_for s) (namespaces_for s)

-- what is signed
abbrev pub message_for : Spec → SignAlg → List ℕ
message_for s alg = signed_bytes (protected_bytes alg) (payload_for s)

-- the issuer's signed message, which names the key by its identifier
abbrev pub auth_for : Spec → SignAlg → List ℕ → List ℕ
auth_for s alg signature = sign1_bytes alg (Some s.key) (Some (payload_for s)) signature

-- the bytes of the document
abbrev pub document_for : Spec → SignAlg → List ℕ → List ℕ
document_for s alg signature =
    issuer_signed_bytes (auth_for s alg signature) (namespaces_bytes (namespaces_for s))

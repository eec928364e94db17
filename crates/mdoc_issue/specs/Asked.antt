-- What is issued reads as the credential that was asked (ISO/IEC 18013-5, sections 8.3.2.1.2.2 and 9.1.2.4).
use Rattle.std.specs.Prelude.{◌≡◌, ◌<◌, ◌^◌, ◌++◌, ℕ, suc, true, List, length, codes, Some, None}
use Rattle.serde_json.specs.Data.{Members as Fields, no_members as no_fields, member as field}
use Rattle.base_forms.specs.Base16.{hex_of}
use Rattle.claim_tree.specs.Credential.{Credential, cose}
use Rattle.claim_tree.specs.SignAlg.{cose_number}
use Rattle.claim_tree.specs.Tree.{RecordOf, Members, no_members, member}
use Rattle.claim_tree.specs.declared.algorithm.SignAlg.{SignAlg}
use Rattle.claim_tree.specs.declared.facts.Format.TheVariants.{Mdoc}
use Rattle.mdoc_issue.specs.Issued.{message_for, document_for}
use Rattle.mdoc_issue.specs.Spec.{Spec, IsMdocSpec}
use Rattle.mdoc_object.specs.Namespaces.{elements_in}
use Rattle.mdoc_view.specs.Reading.{credential_in}
use Rattle.mdoc_view.specs.Refusal.{refusal_of}
use Rattle.mdoc_written.specs.Element.{element_tree}

-- ---- the tree: each namespace is held, and so is each of its elements

abbrev pub element_members : Fields → Members
element_members no_fields = no_members
element_members (field k d ms) = member k true (element_tree d) (element_members ms)

abbrev pub namespace_members : Fields → Members
namespace_members no_fields = no_members
namespace_members (field k d ms) =
    member k true (RecordOf (element_members (elements_in d))) (namespace_members ms)

-- ---- the credential

-- It is bound to the holder's key, and is valid from the first to the last second that was asked.
abbrev pub credential_for : Spec → SignAlg → List ℕ → Credential
credential_for s alg signature = record {
  format = Mdoc;
  kind = s.kind;
  issuer = s.key_name;
  holder = Some (codes "cose:" ++ hex_of s.holder);
  first = s.from;
  past = Some (suc s.until);
  tree = RecordOf (namespace_members s.namespaces);
  seal = record {
    algorithm = cose (cose_number alg);
    message = message_for s alg;
    signature = signature;
  };
}

-- What is written breaks no rule of a reader, and says the credential that was asked.
abbrev pub ReadsAsAsked : Spec → SignAlg → List ℕ → Type 0
ReadsAsAsked s alg signature =
    (refusal_of (document_for s alg signature) ≡ None)
    × (credential_in (document_for s alg signature) ≡ Some (credential_for s alg signature))

-- No head of CBOR says a length of 2^64, and no memory holds so many bytes.
abbrev pub IssuedIsAsked : Type 0
IssuedIsAsked = (s : Spec) (alg : SignAlg) (signature : List ℕ) → IsMdocSpec s
    → length (document_for s alg signature) < 2 ^ 64 → ReadsAsAsked s alg signature

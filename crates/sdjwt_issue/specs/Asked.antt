-- What is issued reads as the credential that was asked (RFC 9901, section 7.1; SD-JWT VC, section 3).
use Rattle.std.specs.Prelude.{◌≡◌, ℕ, Bool, true, List, Some, None, option_map, unwrap_or}
use Rattle.serde_json.specs.Data.{object}
use Rattle.base64.specs.GeneralPurpose.{IsBytes}
use Rattle.std.specs.List.{AllByRecursion}
use Rattle.base_forms.specs.Texts.{Utf8, differ}
use Rattle.jws_envelope.specs.KeyNames.{jwk_name}
use Rattle.jws_envelope.specs.Draft.{IsReadAs}
use Rattle.claim_tree.specs.Tree.{RecordOf}
use Rattle.claim_tree.specs.Parts.{members_of}
use Rattle.claim_tree.specs.SignAlg.{jose_name}
use Rattle.claim_tree.specs.Credential.{Credential, jose}
use Rattle.claim_tree.specs.declared.algorithm.SignAlg.{SignAlg}
use Rattle.sdjwt_view.specs.Reading.{refusal_of, credential_in}
use Rattle.sdjwt_hiding.specs.Addresses.{number_in}
use Rattle.sdjwt_hiding.specs.Hiding.{Marks, met, disclosures}
use Rattle.sdjwt_hiding.specs.Meant.{meant_members}
use Rattle.sdjwt_hiding.specs.Laws.{digests}
use Rattle.sdjwt_hiding.specs.Disclosing.{by_sha256, IsReadBack}
use Rattle.sdjwt_issue.specs.Spec.{Spec, all_members, IsSdJwtSpec}
use Rattle.sdjwt_issue.specs.Issued.{header_by, payload_of, input_by, issued_text}

abbrev pub marks : Spec → Marks
marks s = number_in s.hide

-- no two of the disclosures have one digest
abbrev pub has_own_digests : Spec → Bool
has_own_digests s = differ (digests (disclosures by_sha256 (marks s) (object (all_members s))))

-- what is signed
abbrev pub input_for : Spec → SignAlg → Utf8
input_for s alg = input_by alg s.key (marks s) (all_members s)

-- the credential's text
abbrev pub text_for : Spec → SignAlg → List ℕ → Utf8
text_for s alg signature = issued_text alg s.key (marks s) (all_members s) signature

-- The credential has the claims with each hidden part held, the facts beside them, the kind, the issuer, the
-- holder and the moments that were asked, and this signature.
pub record IsAsked (s : Spec) (alg : SignAlg) (signature : List ℕ) (c : Credential) : Type 0 where
  pub tree : c.tree ≡ RecordOf (members_of (meant_members (marks s) (all_members s)))
  pub kind : c.kind ≡ s.kind
  pub issuer : c.issuer ≡ s.key_name
  pub holder : c.holder ≡ option_map jwk_name s.holder
  pub first : c.first ≡ unwrap_or s.from 0
  pub past : c.past ≡ s.until
  pub algorithm : c.seal.algorithm ≡ jose (jose_name alg)
  pub message : c.seal.message ≡ input_for s alg
  pub signature_is : c.seal.signature ≡ signature

-- What is written reads, by the reader's own definitions, as a credential, and as the one that was asked.
pub record ReadsAsAsked (s : Spec) (alg : SignAlg) (signature : List ℕ) : Type 0 where
  pub credential : Credential
  pub unbroken : refusal_of (text_for s alg signature) ≡ None
  pub says : credential_in (text_for s alg signature) ≡ Some credential
  pub is_asked : IsAsked s alg signature credential

-- What the writing of the parts says of them: the signed message is read as its header and its payload, and
-- each disclosure as what it discloses.
pub record AreReadBack (s : Spec) (alg : SignAlg) : Type 0 where
  pub message : IsReadAs (header_by alg s.key) (payload_of (marks s) (all_members s)) (input_for s alg)
  pub disclosed : AllByRecursion IsReadBack (met by_sha256 (marks s) (object (all_members s)))

abbrev pub IssuedIsAsked : Type 0
IssuedIsAsked = (s : Spec) (alg : SignAlg) (signature : List ℕ) → IsSdJwtSpec s → has_own_digests s ≡ true
    → AreReadBack s alg → IsBytes signature → ReadsAsAsked s alg signature

-- With this signature each spec that may be asked reads so.
abbrev pub AllReadAsAsked : List ℕ → Type 0
AllReadAsAsked signature = (s : Spec) (alg : SignAlg) → IsSdJwtSpec s → has_own_digests s ≡ true
    → AreReadBack s alg → ReadsAsAsked s alg signature

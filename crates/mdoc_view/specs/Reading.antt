-- What the bytes of an `IssuerSigned` (ISO/IEC 18013-5, section 8.3.2.1.2.2) say, where they break no rule:
-- the issuer's signed message, and the credential.
use Rattle.std.specs.Prelude.{ℕ, List, [], Option, option_map, option_and_then, unwrap_or}
use Rattle.claim_tree.specs.Credential.{Credential}
use Rattle.claim_tree.specs.declared.facts.Format.TheVariants.{Mdoc}
use Rattle.cose_sign1.specs.Seal.{cose_seal}
use Rattle.cose_sign1.specs.Sign1.{Message, message_in, issuer_of}
use Rattle.mdoc_items.specs.MapFields.{Entries}
use Rattle.mdoc_view.specs.IssuerSigned.{issuer_signed_in}
use Rattle.mdoc_security.specs.MobileSecurityObject.{MobileSecurityObject, security_object_in}
use Rattle.mdoc_security.specs.MobileSecurityObject.{first_in, past_in}
use Rattle.mdoc_security.specs.DeviceKey.{holder_of}
use Rattle.mdoc_items.specs.IssuerSignedItems.{Namespace, all_namespaces}
use Rattle.mdoc_items.specs.Value.{document_tree}

pub record Content : Type 0 where
  pub auth : Message
  pub credential : Credential

-- the credential of a signed message, its mobile security object and these namespaces
abbrev pub credential_with : Message → MobileSecurityObject → List Namespace → Credential
credential_with auth o ns = record {
  format = Mdoc;
  kind = o.kind;
  issuer = issuer_of auth;
  holder = holder_of o.entries;
  first = unwrap_or (first_in o) 0;
  past = past_in o;
  tree = document_tree ns;
  seal = cose_seal auth (unwrap_or auth.payload []);
}

abbrev pub content_with : Message → MobileSecurityObject → List Namespace → Content
content_with auth o ns = record { auth = auth; credential = credential_with auth o ns }

abbrev pub content_from : Message → Entries → Option MobileSecurityObject → Option Content
content_from auth namespaces object =
    option_and_then (λ o. option_map (content_with auth o) (all_namespaces namespaces)) object

-- what a signed message says with these namespaces
abbrev pub content_by : Entries → Message → Option Content
content_by namespaces auth = content_from auth namespaces (security_object_in auth.payload)

-- what bytes say, where they break no rule
unfoldable pub content_in : List ℕ → Option Content
content_in bytes =
    option_and_then (λ issued. option_and_then (content_by issued.namespaces) (message_in issued.auth))
    (issuer_signed_in bytes)

-- the credential that bytes say, where they break no rule
abbrev pub credential_in : List ℕ → Option Credential
credential_in bytes = option_map (λ c. c.credential) (content_in bytes)

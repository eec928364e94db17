-- What it is for bytes to be a credential, in the standard's own terms: an `IssuerSigned` of which each
-- issuer-signed item has its digest in the mobile security object that the issuer signed (ISO/IEC 18013-5,
-- sections 8.3.2.1.2.2, 9.1.2.4 and 9.1.2.5).
use Rattle.std.specs.Prelude.{◌≡◌, ◌≤◌, ℕ, suc, true, List, [], ◌∷◌, codes, Some, None}
use Rattle.std.specs.List.Sorted.{IsPermutation}
use Rattle.base_forms.specs.Hash.{mso_hash_named, digest_by}
use Rattle.base_forms.specs.declared.hash.HashName.{HashName}
use Rattle.cbor_core.specs.Rules.{broken_rule}
use Rattle.cbor_core.specs.Views.{Span, utf8_text_of, items_of, find_in}
use Rattle.claim_tree.specs.Credential.{Credential}
use Rattle.claim_tree.specs.Tree.{Tree, RecordOf}
use Rattle.claim_tree.specs.declared.facts.Format.TheVariants.{Mdoc}
use Rattle.claim_tree.specs.Parts.{members_of}
use Rattle.cose_sign1.specs.declared.payload.Payload.TheVariants.{Inside}
use Rattle.cose_sign1.specs.Seal.{cose_seal}
use Rattle.cose_sign1.specs.Sign1.{Message, message_in, sign1_rule, issuer_of}
use Rattle.mdoc_items.specs.MapFields.{Utf8, Entries, text_at, natural_at, bytes_at, one_map, embedded}
use Rattle.mdoc_view.specs.IssuerSigned.{IssuerSigned, issuer_signed_in}
use Rattle.mdoc_security.specs.MobileSecurityObject.{MobileSecurityObject, security_object_in}
use Rattle.mdoc_security.specs.MobileSecurityObject.{first_in, last_in, has_version}
use Rattle.mdoc_security.specs.ValueDigests.{digest_at}
use Rattle.mdoc_security.specs.DeviceKey.{device_key_in, is_key, key_name}
use Rattle.mdoc_items.specs.IssuerSignedItems.{item_count, most_items}
use Rattle.mdoc_items.specs.Value.{Valued, rise, marked, value_of}

-- ---- issuer-signed items

-- An issuer-signed item: the byte string under tag 24 is one map of these four.
pub record IsItem (span : Span) (digest_id : ℕ) (element_identifier : Utf8)
    (element_value : Span) : Type 0 where
  pub bytes : List ℕ
  pub is_embedded : embedded span ≡ Some bytes
  pub entries : Entries
  pub is_map : one_map bytes ≡ Some entries
  pub has_digest_id : natural_at (codes "digestID") entries ≡ Some digest_id
  pub random : List ℕ
  pub has_random : bytes_at (codes "random") entries ≡ Some random
  pub has_identifier : text_at (codes "elementIdentifier") entries ≡ Some element_identifier
  pub has_value : find_in (codes "elementValue") entries ≡ Some element_value

-- The items of a namespace and the members that they give, in written order. The digest of each item, which
-- stands in the mobile security object at the namespace and the item's `digestID`, is the hash over the whole
-- encoding of the item, with its tag 24. Its member is named by its `elementIdentifier` and has the tree of
-- its `elementValue`.
pub data GiveMembers (hash : HashName) (digests : Entries) (namespace : Utf8) : List Span → List Valued
    → Type 0 where
  no_more : GiveMembers hash digests namespace [] []
  item : {span : Span} {digest_id : ℕ} {element_identifier : Utf8} {element_value : Span}
      {spans : List Span} {members : List Valued}
      → IsItem span digest_id element_identifier element_value
      → digest_at namespace digest_id digests ≡ Some (digest_by hash span)
      → GiveMembers hash digests namespace spans members
      → GiveMembers hash digests namespace (span ∷ spans)
      ((element_identifier, value_of element_value) ∷ members)

-- ---- the claim tree

-- The record of these members, each of them held, in the order of their names, which all differ.
abbrev pub IsHeldRecord : List Valued → Tree → Type 0
IsHeldRecord members tree =
    (order : List Valued) × IsPermutation members order × (rise order ≡ true)
    × (tree ≡ RecordOf (members_of (marked true order)))

-- The namespaces and the members that they give, in written order: each a record of what its items give.
pub data GiveNamespaces (hash : HashName) (digests : Entries) : Entries → List Valued → Type 0 where
  no_more : GiveNamespaces hash digests [] []
  namespace : {key list : Span} {name : Utf8} {elements : List Valued} {tree : Tree}
      {entries : Entries} {members : List Valued}
      → utf8_text_of key ≡ Some name
      → GiveMembers hash digests name (items_of list) elements
      → IsHeldRecord elements tree
      → GiveNamespaces hash digests entries members
      → GiveNamespaces hash digests ((key, list) ∷ entries) ((name, tree) ∷ members)

-- ---- what bytes say

-- The mobile security object is of version 1.0, names a known hash, says from when until when it is valid,
-- and binds to a key.
pub record IsSound (object : MobileSecurityObject) (hash : HashName) (from until : ℕ)
    (key : Span) : Type 0 where
  pub of_version : has_version object.entries ≡ true
  pub names_hash : mso_hash_named object.algorithm ≡ Some hash
  pub is_from : first_in object ≡ Some from
  pub is_until : last_in object ≡ Some until
  pub has_key : device_key_in object.entries ≡ Some key
  pub of_form : is_key key ≡ true

-- The bytes are one item of CBOR, an `IssuerSigned` of at most 1,024 items. Its `issuerAuth` is a COSE_Sign1
-- over a mobile security object, which has the digests of the items. The tree is the record of the
-- namespaces; the issuer is named by the message, the seal is the message's, and all else is the object's.
pub record Reads (bytes : List ℕ) (c : Credential) : Type 0 where
  pub is_cbor : broken_rule 32 bytes ≡ None
  pub issued : IssuerSigned
  pub is_issued : issuer_signed_in bytes ≡ Some issued
  pub is_signed : sign1_rule Inside issued.auth ≡ None
  pub message : Message
  pub is_message : message_in issued.auth ≡ Some message
  pub payload : List ℕ
  pub is_payload : message.payload ≡ Some payload
  pub object : MobileSecurityObject
  pub is_object : security_object_in (Some payload) ≡ Some object
  pub hash : HashName
  pub from : ℕ
  pub until : ℕ
  pub key : Span
  pub is_sound : IsSound object hash from until key
  pub few : item_count issued.namespaces ≤ most_items
  pub members : List Valued
  pub give : GiveNamespaces hash object.digests issued.namespaces members
  pub tree : Tree
  pub is_tree : IsHeldRecord members tree
  pub says : c ≡ record {
    format = Mdoc;
    kind = object.kind;
    issuer = issuer_of message;
    holder = Some (key_name key);
    first = from;
    past = Some (suc until);
    tree = tree;
    seal = cose_seal message payload;
  }

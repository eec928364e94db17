-- What an issuer is asked to write as a mobile document (ISO/IEC 18013-5, sections 8.3.2.1.2.2 and 9.1.2.4).
use Rattle.std.specs.Prelude.{◌≡◌, ◌<◌, ◌≤◌, ⊤, ℕ, true, List, None}
use Rattle.serde_json.specs.Data.{Data, object, Members as Fields, no_members as no_fields, member as field}
use Rattle.base_forms.specs.Texts.{Utf8}
use Rattle.cbor_core.specs.Rules.{broken_rule}
use Rattle.claim_tree.specs.Tree.{ascend}
use Rattle.cose_sign1.specs.Sign1.{named_key}
pub use Rattle.mdoc_dates.specs.Laws.{year_10000}
use Rattle.mdoc_items.specs.IssuerSignedItems.{most_items}
use Rattle.mdoc_object.specs.Namespaces.{element_count}
use Rattle.mdoc_security.specs.DeviceKey.{is_key, key_bytes}
use Rattle.mdoc_written.specs.Laws.{IsText, names_of, AreMembers}

-- The name of the issuer's key, and its identifier; the kind of document; the encoding of the holder's key;
-- the first and the last second at which it is valid; the namespaces with their elements.
pub record Spec : Type 0 where
  pub key_name : Utf8
  pub key : List ℕ
  pub kind : Utf8
  pub holder : List ℕ
  pub from : ℕ
  pub until : ℕ
  pub namespaces : Fields

-- ---- what may be asked

-- A COSE key that a document may be bound to, one item with no list or map inside, in deterministic encoding.
pub record IsHolderKey (key : List ℕ) : Type 0 where
  pub is_item : broken_rule 1 key ≡ None
  pub of_form : is_key key ≡ true
  pub deterministic : key_bytes key ≡ key

-- An element's value lies in the map of its item, so it has one level less than the 32 of a document.
abbrev pub IsNamespace : Data → Type 0
IsNamespace (object ms) = (ascend (names_of ms) ≡ true) × AreMembers ms 31
IsNamespace _ = ⊥

abbrev pub AreNamespaces : Fields → Type 0
AreNamespaces no_fields = ⊤
AreNamespaces (field k d ms) = IsText k × IsNamespace d × AreNamespaces ms

-- What may be asked: the key's name is made of its identifier; the kind is a text; the holder's key is one
-- that a document may be bound to; the dates have a text; the namespaces are objects of elements, whose names
-- ascend as JSON is read; there are no more elements than a document may have.
pub record IsMdocSpec (s : Spec) : Type 0 where
  pub is_name : s.key_name ≡ named_key s.key
  pub kind_is_text : IsText s.kind
  pub holder_key : IsHolderKey s.holder
  pub from_has_text : s.from < year_10000
  pub until_has_text : s.until < year_10000
  pub names_ascend : ascend (names_of s.namespaces) ≡ true
  pub are_namespaces : AreNamespaces s.namespaces
  pub few : element_count s.namespaces ≤ most_items

-- Bytes read as a credential by the relation exactly where they break no rule and say that credential.
use Rattle.std.proofs.Common.{◌≡◌, ◌≤◌, ℕ, suc, true, List, [], ◌∷◌, map, Option, Some, None, option_map}
use Rattle.std.proofs.Common.{option_and_then, refl, sym, ap, ◌∙◌, subst}
use Rattle.std.specs.Prelude.{codes, unwrap_or}
use Rattle.base_forms.specs.declared.hash.HashName.TheVariants.{Sha256}
use Rattle.base_forms.specs.Texts.{differ}
use Rattle.cbor_core.specs.Keys.{keys_differ, keys_in}
use Rattle.cbor_core.specs.Rules.{broken_rule}
use Rattle.cbor_core.specs.Views.{Span, entries_of, find_in}
use Rattle.cose_sign1.specs.declared.payload.Payload.TheVariants.{Inside}
use Rattle.cose_sign1.specs.Sign1.{Message, message_in, sign1_rule, rule_of_parts, issuer_of}
use Rattle.mdoc_items.specs.MapFields.{Entries}
use Rattle.mdoc_view.specs.IssuerSigned.{IssuerSigned, are_namespaces, namespaces_of, namespaces_in}
use Rattle.mdoc_view.specs.IssuerSigned.{issuer_signed_in}
use Rattle.mdoc_security.specs.MobileSecurityObject.{MobileSecurityObject, security_object_in}
use Rattle.mdoc_security.specs.MobileSecurityObject.{first_in, last_in, hash_of}
use Rattle.mdoc_security.specs.DeviceKey.{device_key_in, key_name}
use Rattle.mdoc_items.specs.IssuerSignedItems.{Namespace, all_namespaces}
use Rattle.mdoc_items.specs.Value.{record_of, document_tree}
use Rattle.claim_tree.specs.Credential.{Credential}
use Rattle.claim_tree.specs.Tree.{Tree}
use Rattle.claim_tree.specs.declared.facts.Format.TheVariants.{Mdoc}
use Rattle.cose_sign1.specs.Seal.{cose_seal}
use Rattle.mdoc_view.specs.Reading.{Content, credential_with, content_with, content_from, content_by}
use Rattle.mdoc_view.specs.Reading.{content_in, credential_in}
use Rattle.mdoc_view.specs.Refusal.{refused, rule_of_security_object, payload_of, refusal_past}
use Rattle.mdoc_view.specs.Refusal.{refusal_of_issuer_signed, refusal_by, refusal_of}
use Rattle.mdoc_view.specs.Relation.{Reads}
use Rattle.mdoc_view.proofs.Options.{split, split_map}
use Rattle.mdoc_view.proofs.Distinct.{names_in, record_held, held_record}
use Rattle.mdoc_view.proofs.KeysDiffer.{inner_keys, names_differ}
use Rattle.mdoc_view.proofs.Given.{member, names_member, NoFault, namespaces_given, given_namespaces}
use Rattle.mdoc_view.proofs.Rules.{ItemsRead, Sound, object_read, read_object}

-- ---- the parts of what was read

by_cbor : (bytes : List ℕ) (o : Option ℕ) → refusal_by bytes o ≡ None
    → (o ≡ None) × (refusal_of_issuer_signed (issuer_signed_in bytes) ≡ None)
by_cbor bytes None e = (refl, e)
by_cbor bytes (Some n) e = absurd cc

by_form : (o : Option IssuerSigned) → refusal_of_issuer_signed o ≡ None
    → (i : IssuerSigned) × (o ≡ Some i) × (refusal_past i (sign1_rule Inside i.auth) ≡ None)
by_form None e = absurd cc
by_form (Some i) e = (i, refl, e)

map_none : {A B : Type 0} (f : A → B) (o : Option A) → option_map f o ≡ None → o ≡ None
map_none f None e = refl
map_none f (Some x) e = absurd cc

by_signature : (i : IssuerSigned) (o : Option ℕ) → refusal_past i o ≡ None
    → (o ≡ None) × (rule_of_security_object i.namespaces (security_object_in (payload_of i.auth)) ≡ None)
by_signature i None e =
    (refl, map_none refused (rule_of_security_object i.namespaces (security_object_in (payload_of i.auth))) e)
by_signature i (Some n) e = absurd cc

is_message : (item : Span) → sign1_rule Inside item ≡ None → (m : Message) × (message_in item ≡ Some m)
unfolding sign1_rule
is_message item e = at (message_in item) e
  where
    at : (o : Option Message) → rule_of_parts Inside o ≡ None → (m : Message) × (o ≡ Some m)
    at None h = absurd cc
    at (Some m) h = (m, refl)

-- what holds of bytes that break no rule
pub record Unbroken (bytes : List ℕ) : Type 0 where
  pub is_cbor : broken_rule 32 bytes ≡ None
  pub issued : IssuerSigned
  pub is_issued : issuer_signed_in bytes ≡ Some issued
  pub is_signed : sign1_rule Inside issued.auth ≡ None
  pub message : Message
  pub is_message : message_in issued.auth ≡ Some message
  pub object : MobileSecurityObject
  pub is_object : security_object_in message.payload ≡ Some object
  pub sound : Sound object
  pub items : ItemsRead object issued.namespaces

unbroken : (bytes : List ℕ) → refusal_of bytes ≡ None → Unbroken bytes
unfolding refusal_of
unbroken bytes r =
    let a = by_cbor bytes (broken_rule 32 bytes) r in
    let i = by_form (issuer_signed_in bytes) a.1 in
    let s = by_signature i.0 (sign1_rule Inside (i.0).auth) i.2 in
    let m = is_message (i.0).auth s.0 in
    let payload : payload_of (i.0).auth ≡ (m.0).payload =
    ap (option_and_then (λ (x : Message). x.payload)) m.1 in
    let o = object_read (i.0).namespaces (security_object_in (payload_of (i.0).auth)) s.1 in
    record {
      is_cbor = a.0;
      issued = i.0;
      is_issued = i.1;
      is_signed = s.0;
      message = m.0;
      is_message = m.1;
      object = o.0;
      is_object = ap security_object_in (sym payload) ∙ o.1;
      sound = o.2;
      items = o.3;
    }

module _ (bytes : List ℕ) (u : Unbroken bytes) where
  said_content : content_in bytes ≡ Some (content_with u.message u.object u.items.1.0)
  unfolding content_in
  said_content =
      ap (option_and_then
      (λ (i : IssuerSigned). option_and_then (content_by i.namespaces) (message_in i.auth))) u.is_issued
      ∙ ap (option_and_then (content_by u.issued.namespaces)) u.is_message
      ∙ ap (content_from u.message u.issued.namespaces) u.is_object
      ∙ ap (option_map (content_with u.message u.object)) u.items.1.1

  said : credential_in bytes ≡ Some (credential_with u.message u.object u.items.1.0)
  said = ap (option_map (λ (c : Content). c.credential)) said_content

-- ---- the namespaces

keys_at : (bytes : List ℕ) (o : Option Span) (es : Entries) → namespaces_in o ≡ Some es
    → ((item : Span) → o ≡ Some item → keys_differ (keys_in (entries_of item)) ≡ true)
    → keys_differ (keys_in es) ≡ true
keys_at bytes None es e all = let same : [] ≡ es = cc in ap (λ z. keys_differ (keys_in z)) (sym same)
keys_at bytes (Some item) es e all = ap (λ z. keys_differ (keys_in z)) (sym (entries_are item es e))
    ∙ all item refl
  where
    at : (b : Rattle.std.proofs.Common.Bool) (es xs : Entries)
        → Rattle.std.proofs.Common.cond b (Some es) None ≡ Some xs → es ≡ xs
    at Rattle.std.proofs.Common.true es xs e = cc
    at Rattle.std.proofs.Common.false es xs e = absurd cc

    entries_are : (item : Span) (es : Entries) → namespaces_of item ≡ Some es → entries_of item ≡ es
    entries_are item es e = at (are_namespaces item) (entries_of item) es e

issued_keys : (bytes : List ℕ) (i : IssuerSigned) → broken_rule 32 bytes ≡ None
    → issuer_signed_in bytes ≡ Some i
    → keys_differ (keys_in i.namespaces) ≡ true
issued_keys bytes i fine e =
    let entries = entries_of bytes in
    let a = split (λ auth. option_map (λ namespaces. record { namespaces = namespaces; auth = auth })
    (namespaces_in (find_in (codes "nameSpaces") entries))) (find_in (codes "issuerAuth") entries) i e in
    let b = split_map (λ namespaces. record { namespaces = namespaces; auth = a.0 })
    (namespaces_in (find_in (codes "nameSpaces") entries)) i a.2 in
    let same : b.0 ≡ i.namespaces = ap (λ (j : IssuerSigned). j.namespaces) b.2 in
    ap (λ z. keys_differ (keys_in z)) (sym same)
    ∙ keys_at bytes (find_in (codes "nameSpaces") entries) b.0 b.1
    (λ item found. inner_keys 31 bytes (codes "nameSpaces") item fine found)

-- ---- the credential

abbrev credential_from : Message → MobileSecurityObject → List ℕ → ℕ → ℕ → Span → Tree → Credential
credential_from m o payload from until key tree = record {
  format = Mdoc;
  kind = o.kind;
  issuer = issuer_of m;
  holder = Some (key_name key);
  first = from;
  past = Some (suc until);
  tree = tree;
  seal = cose_seal m payload;
}

said_from : (m : Message) (o : MobileSecurityObject) (ns : List Namespace) (payload : List ℕ) (from until : ℕ)
    (key : Span)
    → m.payload ≡ Some payload → first_in o ≡ Some from → last_in o ≡ Some until
    → device_key_in o.entries ≡ Some key
    → credential_with m o ns ≡ credential_from m o payload from until key (document_tree ns)
said_from m o ns payload from until key p f l k = rw (p, f, l, k) refl

-- ---- to the relation

module _ (bytes : List ℕ) (u : Unbroken bytes) where
  abbrev spaces : List Namespace
  spaces = u.items.1.0

  hash_is : hash_of u.object ≡ u.sound.0
  hash_is = ap (λ o. unwrap_or o Sha256) (u.sound.4).names_hash

  fine : NoFault u.sound.0 u.object.digests spaces
  fine = subst (λ h. NoFault h u.object.digests spaces) hash_is u.items.1.2

  names : differ (names_in (map member spaces)) ≡ true
  names = ap differ (names_member spaces)
      ∙ names_differ u.issued.namespaces spaces u.items.1.1 (issued_keys bytes u.issued u.is_cbor u.is_issued)

  payload_is : (p : List ℕ) × (u.message.payload ≡ Some p)
  payload_is = at u.message.payload u.is_object
    where
      at : (o : Option (List ℕ)) → security_object_in o ≡ Some u.object → (p : List ℕ) × (o ≡ Some p)
      at None e = absurd cc
      at (Some p) e = (p, refl)

  says_is : credential_with u.message u.object spaces
      ≡ credential_from u.message u.object payload_is.0 u.sound.1 u.sound.2 u.sound.3
      (record_of true (map member spaces))
  unfolding document_tree
  says_is =
      said_from u.message u.object spaces payload_is.0 u.sound.1 u.sound.2 u.sound.3
      payload_is.1 (u.sound.4).is_from (u.sound.4).is_until (u.sound.4).has_key

  reads_unbroken : Reads bytes (credential_with u.message u.object spaces)
  reads_unbroken = record {
    is_cbor = u.is_cbor;
    issued = u.issued;
    is_issued = u.is_issued;
    is_signed = u.is_signed;
    message = u.message;
    is_message = u.is_message;
    payload = payload_is.0;
    is_payload = payload_is.1;
    object = u.object;
    is_object = ap security_object_in (sym payload_is.1) ∙ u.is_object;
    hash = u.sound.0;
    from = u.sound.1;
    until = u.sound.2;
    key = u.sound.3;
    is_sound = u.sound.4;
    few = u.items.0;
    members = map member spaces;
    give = namespaces_given u.sound.0 u.object.digests u.issued.namespaces spaces u.items.1.1 fine;
    tree = record_of true (map member spaces);
    is_tree = record_held (map member spaces) names;
    says = says_is;
  }

pub unbroken_says : (bytes : List ℕ) → refusal_of bytes ≡ None
    → (c : Credential) × (credential_in bytes ≡ Some c)
unbroken_says bytes h = let u =
    unbroken bytes h in (credential_with u.message u.object u.items.1.0, said bytes u)

pub computed_reads : (bytes : List ℕ) (c : Credential) → refusal_of bytes ≡ None
    → credential_in bytes ≡ Some c → Reads bytes c
computed_reads bytes c h k =
    let u = unbroken bytes h in
    let same : Some (credential_with u.message u.object u.items.1.0) ≡ Some c = sym (said bytes u) ∙ k in
    let is : credential_with u.message u.object u.items.1.0 ≡ c = cc in
    subst (Reads bytes) is (reads_unbroken bytes u)

-- ---- from the relation

module _ (bytes : List ℕ) (c : Credential) (r : Reads bytes c) where
  found : (ns : List Namespace) × (all_namespaces r.issued.namespaces ≡ Some ns) × (map member ns ≡ r.members)
      × NoFault r.hash r.object.digests ns
  found = given_namespaces r.hash r.object.digests r.give

  named : hash_of r.object ≡ r.hash
  named = ap (λ o. unwrap_or o Sha256) (r.is_sound).names_hash

  held : (record_of true (map member found.0) ≡ r.tree) × (differ (names_in r.members) ≡ true)
  held =
      let h = held_record r.members r.tree r.is_tree in
      (ap (record_of true) found.2 ∙ h.0, h.1)

  back : Unbroken bytes
  back = record {
    is_cbor = r.is_cbor;
    issued = r.issued;
    is_issued = r.is_issued;
    is_signed = r.is_signed;
    message = r.message;
    is_message = r.is_message;
    object = r.object;
    is_object = ap security_object_in r.is_payload ∙ r.is_object;
    sound = (r.hash, r.from, r.until, r.key, r.is_sound);
    items = (r.few, (found.0, found.1, subst (λ h. NoFault h r.object.digests found.0) (sym named) found.3));
  }

  says_back : credential_with r.message r.object found.0 ≡ c
  unfolding document_tree
  says_back =
      said_from r.message r.object found.0 r.payload r.from r.until r.key
      r.is_payload (r.is_sound).is_from (r.is_sound).is_until (r.is_sound).has_key
      ∙ ap (credential_from r.message r.object r.payload r.from r.until r.key) held.0
      ∙ sym r.says

  none_broken : refusal_of bytes ≡ None
  unfolding refusal_of back
  none_broken =
      let payload : security_object_in (payload_of r.issued.auth) ≡ Some r.object =
      ap (λ o. security_object_in (option_and_then (λ (x : Message). x.payload) o)) r.is_message
      ∙ ap security_object_in r.is_payload ∙ r.is_object in
      let object = read_object r.issued.namespaces r.object r.hash r.from r.until r.key r.is_sound back.items
      in
      ap (refusal_by bytes) r.is_cbor
      ∙ ap refusal_of_issuer_signed r.is_issued
      ∙ ap (refusal_past r.issued) r.is_signed
      ∙ ap (λ o. option_map refused (rule_of_security_object r.issued.namespaces o)) payload
      ∙ ap (option_map refused) object

pub reads_computed : (bytes : List ℕ) (c : Credential) → Reads bytes c → (refusal_of bytes ≡ None)
    × (credential_in bytes ≡ Some c)
unfolding back found
reads_computed bytes c r =
    (none_broken bytes c r, said bytes (back bytes c r) ∙ ap Some (says_back bytes c r))

pub reads_one : (bytes : List ℕ) (c d : Credential) → Reads bytes c → Reads bytes d → c ≡ d
reads_one bytes c d r s =
    let same : Some c ≡ Some d = sym (reads_computed bytes c r).1 ∙ (reads_computed bytes d s).1 in
    cc

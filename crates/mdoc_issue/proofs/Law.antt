-- What is issued reads as the credential that was asked.
use Rattle.std.proofs.Common.{rules, codes, ◌≡◌, ℕ, suc, ◌+◌, ◌<◌, ◌≤◌, ◌^◌, true, List, [], ◌∷◌, ◌++◌}
use Rattle.std.proofs.Common.{length, map}
use Rattle.std.proofs.Common.{Option, Some, None, IsSomeAnd, refl, sym, ap, ◌∙◌, arith, subst}
use Rattle.std.specs.Prelude.{unwrap_or}
use Rattle.std.specs.Option.{option_map_or}
use Rattle.std.specs.List.{AllByRecursion}
use Rattle.std.specs.Str.{is_utf8}
use Rattle.std.proofs.lemmas.List.{length-append}
use Rattle.std.proofs.lemmas.Str.{is_utf8-from_IsUtf8}
use Rattle.serde_json.specs.Data.{Members as Fields, no_members as no_fields, member as field}
use Rattle.base_forms.specs.Base16.{hex_of}
use Rattle.base_forms.specs.Leaf.{leaf_name}
use Rattle.base_forms.specs.declared.hash.HashName.TheVariants.{Sha256}
use Rattle.claim_tree.specs.Credential.{cose}
use Rattle.claim_tree.specs.SignAlg.{cose_number}
use Rattle.claim_tree.specs.Tree.{RecordOf}
use Rattle.claim_tree.specs.declared.algorithm.SignAlg.{SignAlg}
use Rattle.claim_tree.specs.declared.facts.Format.TheVariants.{Mdoc}
use Rattle.cbor_core.specs.Order.{Pair}
use Rattle.cbor_core.specs.Views.{Span, find_in, entries_of}
use Rattle.cbor_core.specs.Writing.{head_bytes, byte_string_bytes, pairs_bytes}
use Rattle.cbor_core.proofs.Fine.{IsFine, unbroken, fine_from}
use Rattle.cbor_core.proofs.FineWritten.{AreFinePairs, fine_map_written}
use Rattle.cose_sign1.specs.declared.payload.Payload.TheVariants.{Inside}
use Rattle.cose_sign1.specs.ReadBack.{Says, ReadsAs}
use Rattle.cose_sign1.specs.Seal.{cose_seal}
use Rattle.cose_sign1.specs.Sign1.{Message, message_in, issuer_of, named_key, in_either, key_in, leaf_in}
use Rattle.cose_sign1.specs.Sign1.{signed_bytes}
use Rattle.cose_sign1.specs.Writing.{protected_bytes, unprotected_bytes}
use Rattle.cose_sign1.proofs.ReadBack.{written_is_read}
use Rattle.mdoc_items.specs.IssuerSignedItems.{most_items}
use Rattle.mdoc_security.specs.DeviceKey.{key_name}
use Rattle.mdoc_view.specs.IssuerSigned.{IssuerSigned, issuer_signed_in, issuer_signed_by, namespaces_in}
use Rattle.mdoc_view.specs.Laws.{ReadIsComputed}
use Rattle.mdoc_view.specs.Relation.{Reads}
use Rattle.mdoc_object.specs.Namespaces.{member_count, elements_in, namespaces_from, items_entry}
use Rattle.mdoc_object.specs.Namespaces.{namespaces_bytes}
use Rattle.mdoc_object.specs.SecurityObject.{issuer_signed_entries}
use Rattle.mdoc_object.specs.ValueDigests.{digests_entry, value_digests_bytes}
use Rattle.mdoc_written.specs.Containers.{sorted_map_bytes, by_key, named, AllRelated}
use Rattle.mdoc_written.proofs.Items.{named_fine}
use Rattle.mdoc_written.proofs.Lengths.{behind_head, pair_length, by_key_bytes}
use Rattle.mdoc_written.proofs.Texts.{key_is, find_first, find_later, entries_back}
use Rattle.mdoc_issue.specs.Asked.{namespace_members, credential_for, IssuedIsAsked}
use Rattle.mdoc_issue.specs.Issued.{parts_for, namespaces_for, payload_for, auth_for, document_for}
use Rattle.mdoc_issue.specs.Spec.{Spec, IsMdocSpec}
use Rattle.mdoc_issue.proofs.Lists.{lists, lists_read, AreRead, valued_space}
use Rattle.mdoc_issue.proofs.Object.{said, is_object, is_sound}
use Rattle.mdoc_issue.proofs.Placing.{sorted}
use Rattle.mdoc_issue.proofs.Spaces.{Space, spaces_from, written, written_from, IsGood, all_good, Unlike}
use Rattle.mdoc_issue.proofs.Spaces.{all_unlike}
use Rattle.mdoc_issue.proofs.Spaces.{entry}
use Rattle.mdoc_issue.proofs.ValueDigests.{digests_map, value_digests_read, AreRead as AreDigestsRead}

-- ---- names

issuerAuth_fine : is_utf8 (codes "issuerAuth") ≡ true
issuerAuth_fine = is_utf8-from_IsUtf8 (codes "issuerAuth") (search rules)

nameSpaces_fine : is_utf8 (codes "nameSpaces") ≡ true
nameSpaces_fine = is_utf8-from_IsUtf8 (codes "nameSpaces") (search rules)

-- ---- as many namespaces as bytes

spaces_count : (n : ℕ) (ms : Fields)
    → length (spaces_from n ms) ≤ length (pairs_bytes (map items_entry (namespaces_from n ms)))
spaces_count n no_fields = omega arith
spaces_count n (field k d ms) =
    let here : Space = record { number = n; name = k; elements = elements_in d } in
    let m = n + member_count (elements_in d) in
    omega (
      arith,
      pair_length (items_entry (written here)) (map items_entry (namespaces_from m ms)),
      behind_head 3 (length k) k,
      spaces_count m ms,
    )

-- ---- the entries, by what they are made of

lists_are : (ss : List Space) → map items_entry (map written ss) ≡ map lists ss
lists_are [] = refl
lists_are (s ∷ ss) = ap (λ (ps : List Pair). lists s ∷ ps) (lists_are ss)

digests_are : (ss : List Space) → map digests_entry (map written ss) ≡ map (entry digests_map) ss
digests_are [] = refl
digests_are (s ∷ ss) = ap (λ (ps : List Pair). entry digests_map s ∷ ps) (digests_are ss)

some_and : {A : Type 0} (P : A → Type 0) (o : Option A) → IsSomeAnd o P → (x : A) × (o ≡ Some x) × P x
some_and P None h = absurd h
some_and P (Some x) h = (x, refl, h)

-- ---- the message

issuer_is : (leaf key : Option (List ℕ)) (kid : List ℕ) → leaf ≡ None → key ≡ Some kid
    → option_map_or leaf_name leaf (named_key (unwrap_or key [])) ≡ named_key kid
issuer_is leaf key kid e f = rw (e, f) refl

seal_is : (alg : SignAlg) (kid payload signature : List ℕ) (m : Message)
    → Says alg (Some kid) (Some payload) signature m
    → cose_seal m payload ≡ record {
      algorithm = cose (cose_number alg);
      message = signed_bytes (protected_bytes alg) payload;
      signature = signature;
    }
seal_is alg kid payload signature m says = rw (says.algorithm, says.drafted payload, says.seal) refl

module _ (s : Spec) (alg : SignAlg) (signature : List ℕ) (is : IsMdocSpec s)
    (short : length (document_for s alg signature) < 2 ^ 64) where
  abbrev auth : Span
  auth = auth_for s alg signature

  abbrev spaces : List Space
  spaces = spaces_from 0 s.namespaces

  abbrev map_of_lists : Span
  map_of_lists = namespaces_bytes (namespaces_for s)

  abbrev entries : List Pair
  entries = issuer_signed_entries auth map_of_lists

  -- ---- the parts are short

  auth_short : length auth < 2 ^ 64
  auth_short =
      omega (
        arith,
        short,
        behind_head 5 2 (pairs_bytes entries),
        pair_length (named (codes "issuerAuth") auth) (named (codes "nameSpaces") map_of_lists ∷ []),
      )

  lists_short : length (pairs_bytes (map items_entry (namespaces_for s))) < 2 ^ 64
  lists_short =
      let ps = map items_entry (namespaces_for s) in
      omega (
        arith,
        short,
        behind_head 5 2 (pairs_bytes entries),
        pair_length (named (codes "issuerAuth") auth) (named (codes "nameSpaces") map_of_lists ∷ []),
        pair_length (named (codes "nameSpaces") map_of_lists) [],
        behind_head 5 (length (by_key ps)) (pairs_bytes (by_key ps)),
        by_key_bytes ps,
      )

  payload_short : length (payload_for s) < 2 ^ 64
  payload_short =
      let p = byte_string_bytes (protected_bytes alg) in
      let u = unprotected_bytes (Some s.key) in
      let c = byte_string_bytes (payload_for s) in
      let front = (head_bytes 4 4 ++ p) ++ u in
      omega (
        arith,
        auth_short,
        length-append (front ++ c) (byte_string_bytes signature),
        length-append front c,
        length-append (head_bytes 2 (length (payload_for s))) (payload_for s),
      )

  -- ---- the namespaces

  good : AllByRecursion IsGood spaces
  good = all_good 0 s.namespaces is.are_namespaces (omega (arith, is.few)) lists_short

  unlike : AllRelated Unlike spaces
  unlike = all_unlike 0 s.namespaces is.names_ascend

  few : length spaces < 2 ^ 64
  few = omega (arith, spaces_count 0 s.namespaces, lists_short)

  abbrev digests : List Pair
  digests = map (entry digests_map) (sorted (entry digests_map) spaces)

  digests_map_is : sorted_map_bytes (map (entry digests_map) spaces) ≡ value_digests_bytes (namespaces_for s)
  digests_map_is =
      ap sorted_map_bytes (sym (ap (map digests_entry) (written_from 0 s.namespaces) ∙ digests_are spaces))

  digests_read : AreDigestsRead spaces (value_digests_bytes (namespaces_for s)) digests
  digests_read =
      subst (λ (b : Span). AreDigestsRead spaces b digests) digests_map_is
      (value_digests_read spaces few good unlike)

  lists_map_is : sorted_map_bytes (map lists spaces) ≡ map_of_lists
  lists_map_is = ap sorted_map_bytes (sym (ap (map items_entry) (written_from 0 s.namespaces)
      ∙ lists_are spaces))

  abbrev namespaces : List Pair
  namespaces = map lists (sorted lists spaces)

  lists_are_read : AreRead s.namespaces map_of_lists namespaces digests
      (map valued_space (sorted lists spaces))
  lists_are_read =
      subst
      (λ (b : Span). AreRead s.namespaces b namespaces digests (map valued_space (sorted lists spaces)))
      lists_map_is (lists_read s.namespaces digests few good unlike digests_read.found is.names_ascend)

  -- ---- the signed message

  message_read : ReadsAs auth alg (Some s.key) (Some (payload_for s)) signature
  message_read = written_is_read alg (Some s.key) (Some (payload_for s)) signature auth_short

  message_says : (m : Message) × (message_in auth ≡ Some m) × Says alg (Some s.key)
      (Some (payload_for s)) signature m
  message_says = some_and (Says alg (Some s.key) (Some (payload_for s)) signature)
      (message_in auth) message_read.says

  abbrev message : Message
  message = message_says.0

  -- ---- the document

  pairs_fine : AreFinePairs 31 entries
  pairs_fine = (
    named_fine 31 (codes "issuerAuth") (omega arith) issuerAuth_fine auth
        (fine_from 31 auth (message_read.valid 31 (omega arith) (omega arith))),
    (named_fine 31 (codes "nameSpaces") (omega arith) nameSpaces_fine map_of_lists lists_are_read.fine, tt),
  )

  document_fine : IsFine 32 (document_for s alg signature)
  document_fine =
      fine_map_written 31 entries (omega arith) (omega arith) pairs_fine
      (rw (key_is (codes "issuerAuth") (omega arith), key_is (codes "nameSpaces") (omega arith)) refl)

  entries_are : entries_of (document_for s alg signature) ≡ entries
  entries_are = entries_back 31 entries (omega arith) (omega arith) pairs_fine

  auth_found : find_in (codes "issuerAuth") entries ≡ Some auth
  auth_found =
      find_first (codes "issuerAuth") auth (named (codes "nameSpaces") map_of_lists ∷ []) (omega arith) refl

  lists_found : find_in (codes "nameSpaces") entries ≡ Some map_of_lists
  lists_found =
      find_later (codes "nameSpaces") (codes "issuerAuth") auth (named (codes "nameSpaces") map_of_lists ∷ [])
      (omega arith) refl
      ∙ find_first (codes "nameSpaces") map_of_lists [] (omega arith) refl

  spaces_are : namespaces_in (find_in (codes "nameSpaces") entries) ≡ Some namespaces
  spaces_are = ap namespaces_in lists_found ∙ lists_are_read.of_form

  abbrev issued : IssuerSigned
  issued = record { namespaces = namespaces; auth = auth }

  is_issued : issuer_signed_in (document_for s alg signature) ≡ Some issued
  is_issued = ap issuer_signed_by entries_are ∙ rw (auth_found, spaces_are) refl

  -- ---- what it says

  holder_is : key_name s.holder ≡ codes "cose:" ++ hex_of s.holder
  holder_is = ap (λ (b : List ℕ). codes "cose:" ++ hex_of b) (is.holder_key).deterministic

  name_is : issuer_of message ≡ s.key_name
  name_is =
      issuer_is (in_either leaf_in message) (in_either key_in message) s.key (message_says.2).certificate
      (message_says.2).key
      ∙ sym is.is_name

  says : credential_for s alg signature ≡ record {
    format = Mdoc;
    kind = s.kind;
    issuer = issuer_of message;
    holder = Some (key_name s.holder);
    first = s.from;
    past = Some (suc s.until);
    tree = RecordOf (namespace_members s.namespaces);
    seal = cose_seal message (payload_for s);
  }
  says =
      rw (name_is, holder_is, seal_is alg s.key (payload_for s) signature message message_says.2) refl

  pub reads : Reads (document_for s alg signature) (credential_for s alg signature)
  reads = record {
    is_cbor = unbroken 32 (document_for s alg signature) document_fine;
    issued = issued;
    is_issued = is_issued;
    is_signed = message_read.unbroken Inside refl;
    message = message;
    is_message = message_says.1;
    payload = payload_for s;
    is_payload = (message_says.2).content;
    object = said (parts_for s) (namespaces_for s) digests is.kind_is_text is.holder_key is.from_has_text
        is.until_has_text digests_read.fine digests_read.of_form digests_read.entries payload_short;
    is_object = is_object (parts_for s)
        (namespaces_for s) digests is.kind_is_text is.holder_key is.from_has_text
        is.until_has_text digests_read.fine digests_read.of_form digests_read.entries payload_short;
    hash = Sha256;
    from = s.from;
    until = s.until;
    key = s.holder;
    is_sound = is_sound (parts_for s)
        (namespaces_for s) digests is.kind_is_text is.holder_key is.from_has_text
        is.until_has_text digests_read.fine digests_read.of_form digests_read.entries payload_short;
    few = subst (λ (n : ℕ). n ≤ most_items) (sym lists_are_read.count) is.few;
    members = map valued_space (sorted lists spaces);
    give = lists_are_read.give;
    tree = RecordOf (namespace_members s.namespaces);
    is_tree = lists_are_read.is_held;
    says = says;
  }

-- A reader's computed reading is the relation.
pub issued_is_asked : ReadIsComputed → IssuedIsAsked
issued_is_asked computed s alg signature is short =
    computed (document_for s alg signature) (credential_for s alg signature) (reads s alg signature is short)

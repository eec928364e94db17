-- A message that is written is one valid item, breaks no rule, and says what was meant.
use Rattle.std.proofs.Common.{◌≡◌, ℕ, ◌≤◌, ◌<◌, ◌^◌, true, false, List, [], ◌∷◌}
use Rattle.std.proofs.Common.{◌++◌}
use Rattle.std.proofs.Common.{length, Option, Some, None, pos, IsSomeAnd, refl, sym, ap, ap₂}
use Rattle.std.proofs.Common.{subst}
use Rattle.std.proofs.Common.{◌∙◌, arith, append_assoc}
use Rattle.std.specs.Prelude.{ℤ, option_and_then, is_some, if◌then◌else◌}
use Rattle.std.specs.Ordering.{int_eq}
use Rattle.cbor_validity.proofs.Deeper.{all_weaker}
use Rattle.std.specs.List.{concat, AllByRecursion}
use Rattle.std.specs.Option.{option_or}
use Rattle.std.proofs.lemmas.List.{length-append, append-nil}
use Rattle.base_forms.specs.Rules.{rule}
use Rattle.claim_tree.specs.SignAlg.{cose_number}
use Rattle.claim_tree.specs.declared.algorithm.SignAlg.{SignAlg}
use Rattle.claim_tree.specs.declared.algorithm.SignAlg.TheVariants.{Es256, EdDsa, Bench256}
use Rattle.cbor_validity.specs.declared.head.Head.TheVariants as head
use Rattle.cbor_validity.specs.Head.{head_at, argument_at, head_of}
use Rattle.cbor_validity.specs.Grammar.{IsItem}
use Rattle.cbor_core.specs.declared.kind.Kind.TheVariants as kind
use Rattle.cbor_core.specs.Laws.{IsWhole}
use Rattle.cbor_core.specs.Rules.{broken_rule}
use Rattle.cbor_core.specs.Valid.{IsValid}
use Rattle.cbor_core.specs.Views.{Span, kind_of, whole_of, bytes_of, tag_of, items_of, entries_of}
use Rattle.cbor_core.specs.Writing.{head_bytes, whole_bytes, byte_string_bytes, null_bytes, pairs_bytes}
use Rattle.cbor_core.proofs.Fine.{fine_from}
use Rattle.cbor_core.proofs.Valid.{valid_whole, valid_bytes, valid_null, valid_list, valid_map, valid_deeper}
use Rattle.cbor_core.proofs.Written.{head_again, list_head_of, map_head_of, reads_whole, reads_bytes}
use Rattle.cbor_core.proofs.Written.{reads_null}
use Rattle.cbor_core.proofs.Written.{reads_list, reads_map}
use Rattle.cose_sign1.specs.declared.payload.Payload.{Payload}
use Rattle.cose_sign1.specs.Sign1.{Message, Headers, untagged, headers_in, payload_in, parts_in, message_in}
use Rattle.cose_sign1.specs.Sign1.{find_label, protected_of, algorithm_of, has_critical, is_where}
use Rattle.cose_sign1.specs.Sign1.{protected_rule, message_rule, rule_of_parts, sign1_rule, key_in}
use Rattle.cose_sign1.specs.Sign1.{leaf_in, is_label, algorithm_in, certificate_in}
use Rattle.cose_sign1.specs.Writing.{protected_bytes, unprotected_bytes, payload_bytes, sign1_bytes}
use Rattle.cose_sign1.specs.ReadBack.{Says, ReadsAs}

-- ---- a map of few pairs

map_kind : (n : ℕ) (rest : List ℕ) → n < 2 ^ 64 → kind_of (head_bytes 5 n ++ rest) ≡ kind.Map
unfolding kind_of
map_kind n rest lt = rw (head_again 5 n rest (head.Map (Some n)) lt (map_head_of n)) refl

list_tag : (n : ℕ) (rest : List ℕ) → n < 2 ^ 64 → tag_of (head_bytes 4 n ++ rest) ≡ None
unfolding tag_of
list_tag n rest lt = rw (head_again 4 n rest (head.List (Some n)) lt (list_head_of n)) refl

-- a map of headers as it is written
record IsHeaders (bytes : List ℕ) (headers : Headers) : Type 0 where
  valid : IsValid 1 bytes
  is : kind_of bytes ≡ kind.Map
  entries : entries_of bytes ≡ headers

empty_head : head_bytes 5 0 ≡ 160 ∷ []
unfolding head_bytes
empty_head = refl

single_head : head_bytes 5 1 ≡ 161 ∷ []
unfolding head_bytes
single_head = refl

no_headers : IsHeaders (160 ∷ []) []
no_headers =
    let e : head_bytes 5 0 ++ [] ≡ 160 ∷ [] = append-nil (head_bytes 5 0) ∙ empty_head in
    record {
      valid = subst (IsValid 1) e (valid_map 0 [] (omega arith) (omega arith) tt refl);
      is = ap kind_of (sym e) ∙ map_kind 0 [] (omega arith);
      entries = ap entries_of (sym e) ∙ (reads_map 0 [] (omega arith) (omega arith) tt).1;
    }

one_header : (label value : List ℕ) → IsValid 0 label → IsValid 0 value
    → IsHeaders ((161 ∷ []) ++ (label ++ value)) ((label, value) ∷ [])
one_header label value a b =
    let pairs : Headers = (label, value) ∷ [] in
    let e : head_bytes 5 1 ++ pairs_bytes pairs ≡ (161 ∷ []) ++ (label ++ value) =
    ap₂ (λ (x y : List ℕ). x ++ y) single_head (append-nil (label ++ value)) in
    record {
      valid = subst (IsValid 1) e (valid_map 0 pairs (omega arith) (omega arith) ((a, b), tt) refl);
      is = ap kind_of (sym e) ∙ map_kind 1 (pairs_bytes pairs) (omega arith);
      entries = ap entries_of (sym e)
          ∙ (reads_map 0 pairs (omega arith) (omega arith)
          (((fine_from 0 label a).item, (fine_from 0 value b).item), tt)).1;
    }

-- ---- the headers of a message

number_is : (alg : SignAlg) → IsWhole (cose_number alg)
number_is Es256 = omega arith
number_is EdDsa = omega arith
number_is Bench256 = omega arith

abbrev of_algorithm : SignAlg → Headers
of_algorithm alg = (whole_bytes (pos 1), whole_bytes (cose_number alg)) ∷ []

protected_is : (alg : SignAlg) → IsHeaders (protected_bytes alg) (of_algorithm alg)
protected_is alg = one_header (whole_bytes (pos 1)) (whole_bytes (cose_number alg))
    (valid_whole 0 (pos 1) (omega arith)) (valid_whole 0 (cose_number alg) (number_is alg))

abbrev of_key : Option (List ℕ) → Headers
of_key None = []
of_key (Some kid) = (whole_bytes (pos 4), byte_string_bytes kid) ∷ []

abbrev IsShort : Option (List ℕ) → Type 0
IsShort None = Unit {0}
IsShort (Some bytes) = length bytes < 2 ^ 64

unprotected_is : (kid : Option (List ℕ)) → IsShort kid → IsHeaders (unprotected_bytes kid) (of_key kid)
unprotected_is None lt = no_headers
unprotected_is (Some kid) lt = one_header (whole_bytes (pos 4)) (byte_string_bytes kid)
    (valid_whole 0 (pos 4) (omega arith)) (valid_bytes 0 kid lt)

-- ---- looking for labels

label_is : (n m : ℤ) → IsWhole m → is_label n (whole_bytes m) ≡ int_eq m n
label_is n m lt = rw ((reads_whole m lt).1) refl

found : (n m : ℤ) (value : List ℕ) → IsWhole m
    → find_label n ((whole_bytes m, value) ∷ []) ≡ (if int_eq m n then Some value else None)
found n m value lt = rw (label_is n m lt) refl

found_in_protected : (n : ℤ) (alg : SignAlg) → find_label n (protected_of (protected_bytes alg))
    ≡ (if int_eq (pos 1) n then Some (whole_bytes (cose_number alg)) else None)
found_in_protected n alg =
    ap (find_label n) ((protected_is alg).entries)
    ∙ found n (pos 1) (whole_bytes (cose_number alg)) (omega arith)

found_by_key : (n : ℤ) (kid : List ℕ)
    → find_label n (of_key (Some kid)) ≡ (if int_eq (pos 4) n then Some (byte_string_bytes kid) else None)
found_by_key n kid = found n (pos 4) (byte_string_bytes kid) (omega arith)

algorithm_read : (alg : SignAlg) → algorithm_in (protected_of (protected_bytes alg)) ≡ Some (cose_number alg)
algorithm_read alg =
    ap (option_and_then whole_of) (found_in_protected (pos 1) alg)
    ∙ (reads_whole (cose_number alg) (number_is alg)).1

not_critical : (alg : SignAlg) → has_critical (protected_of (protected_bytes alg)) ≡ false
not_critical alg = ap is_some (found_in_protected (pos 2) alg)

key_not_critical : (kid : Option (List ℕ)) → has_critical (of_key kid) ≡ false
key_not_critical None = refl
key_not_critical (Some kid) = ap is_some (found_by_key (pos 2) kid)

no_key_inside : (alg : SignAlg) → key_in (protected_of (protected_bytes alg)) ≡ None
no_key_inside alg = ap (option_and_then bytes_of) (found_in_protected (pos 4) alg)

key_read : (kid : Option (List ℕ)) → IsShort kid → option_or (key_in (of_key kid)) None ≡ kid
key_read None lt = refl
key_read (Some kid) lt =
    ap (λ (o : Option Span). option_or (option_and_then bytes_of o) None) (found_by_key (pos 4) kid)
    ∙ ap (λ (o : Option (List ℕ)). option_or o None) ((reads_bytes kid lt).1)

no_leaf_inside : (alg : SignAlg) → leaf_in (protected_of (protected_bytes alg)) ≡ None
no_leaf_inside alg = ap (option_and_then certificate_in) (found_in_protected (pos 33) alg)

no_leaf : (kid : Option (List ℕ)) → leaf_in (of_key kid) ≡ None
no_leaf None = refl
no_leaf (Some kid) = ap (option_and_then certificate_in) (found_by_key (pos 33) kid)

-- ---- the parts of a message

abbrev meant : SignAlg → Option (List ℕ) → Option (List ℕ) → List ℕ → Message
meant alg kid payload signature = record {
  protected = protected_bytes alg;
  unprotected = of_key kid;
  payload = payload;
  signature = signature;
}

abbrev written : SignAlg → Option (List ℕ) → Option (List ℕ) → List ℕ → List (List ℕ)
written alg kid payload signature =
    byte_string_bytes (protected_bytes alg) ∷ unprotected_bytes kid ∷ payload_bytes payload
    ∷ byte_string_bytes signature ∷ []

protected_short : (alg : SignAlg) → length (protected_bytes alg) < 2 ^ 64
unfolding head_bytes
protected_short Es256 = omega arith
protected_short EdDsa = omega arith
protected_short Bench256 = omega arith

payload_valid : (payload : Option (List ℕ)) → IsShort payload → IsValid 1 (payload_bytes payload)
payload_valid None lt = valid_null 1
payload_valid (Some bytes) lt = valid_bytes 1 bytes lt

null_has_none : bytes_of null_bytes ≡ None
unfolding bytes_of head_at argument_at head_of
null_has_none = refl

payload_said : (payload : Option (List ℕ)) → IsShort payload
    → payload_in (payload_bytes payload) ≡ Some payload
payload_said None lt = rw (payload_in, null_has_none, reads_null.1) refl
payload_said (Some bytes) lt = rw (payload_in, (reads_bytes bytes lt).1) refl

headers_said : (bytes : List ℕ) (headers : Headers) → IsHeaders bytes headers
    → headers_in bytes ≡ Some headers
headers_said bytes headers h = rw (h.is, h.entries) refl

parts_said : (p u c s protected signature : List ℕ) (unprotected : Headers) (payload : Option (List ℕ))
    → bytes_of p ≡ Some protected → headers_in u ≡ Some unprotected → payload_in c ≡ Some payload
    → bytes_of s ≡ Some signature
    → parts_in (p ∷ u ∷ c ∷ s ∷ []) ≡ Some (record {
      protected = protected;
      unprotected = unprotected;
      payload = payload;
      signature = signature;
    })
parts_said p u c s protected signature unprotected payload a b d e = rw (a, b, d, e) refl

not_tagged : (item : List ℕ) → tag_of item ≡ None → untagged item ≡ item
not_tagged item e = rw (untagged, e) refl

-- ---- the rules

one_map : (b : ℕ) (bytes : List ℕ) → broken_rule 32 (b ∷ bytes) ≡ None → kind_of (b ∷ bytes) ≡ kind.Map
    → protected_rule (b ∷ bytes) ≡ None
unfolding rule protected_rule
one_map b bytes valid is = rw (valid, is) refl

protected_unbroken : (alg : SignAlg) → protected_rule (protected_bytes alg) ≡ None
protected_unbroken alg =
    let h = protected_is alg in
    one_map 161 (whole_bytes (pos 1) ++ whole_bytes (cose_number alg))
    (valid_deeper 1 32 (protected_bytes alg) (omega arith) (omega arith) h.valid) h.is

none_broken : (m : Message) (expected : Payload) (number : ℤ) → protected_rule m.protected ≡ None
    → algorithm_of m ≡ Some number → has_critical (protected_of m.protected) ≡ false
    → has_critical m.unprotected ≡ false → is_where expected m.payload ≡ true
    → message_rule expected m ≡ None
unfolding rule
none_broken m expected number a b c d e = rw (a, b, c, d, e) refl

-- ---- the whole

front_short : (a b : List ℕ) → length a ≤ length (a ++ b)
front_short a b = omega (arith, length-append a b)

back_short : (a b : List ℕ) → length b ≤ length (a ++ b)
back_short a b = omega (arith, length-append a b)

joined : (h p u c s : List ℕ) → h ++ (p ++ (u ++ (c ++ (s ++ [])))) ≡ (((h ++ p) ++ u) ++ c) ++ s
joined h p u c s =
    ap (λ (x : List ℕ). h ++ (p ++ (u ++ (c ++ x)))) (append-nil s)
    ∙ sym (append_assoc h p (u ++ (c ++ s)))
    ∙ sym (append_assoc (h ++ p) u (c ++ s))
    ∙ sym (append_assoc ((h ++ p) ++ u) c s)

module _ (alg : SignAlg) (kid payload : Option (List ℕ)) (signature : List ℕ) (key_short : IsShort kid)
    (payload_short : IsShort payload) (short : length signature < 2 ^ 64) where
  bytes_are : head_bytes 4 4 ++ concat (written alg kid payload signature)
      ≡ sign1_bytes alg kid payload signature
  bytes_are =
      joined (head_bytes 4 4) (byte_string_bytes (protected_bytes alg)) (unprotected_bytes kid)
      (payload_bytes payload) (byte_string_bytes signature)

  parts_valid : AllByRecursion (IsValid 1) (written alg kid payload signature)
  parts_valid = (
    valid_bytes 1 (protected_bytes alg) (protected_short alg),
    (
      (unprotected_is kid key_short).valid,
      (payload_valid payload payload_short, (valid_bytes 1 signature short, tt)),
    ),
  )

  is_valid : IsValid 2 (sign1_bytes alg kid payload signature)
  is_valid = subst (IsValid 2) bytes_are
      (valid_list 1 (written alg kid payload signature) (omega arith) (omega arith) parts_valid)

  items_are : items_of (sign1_bytes alg kid payload signature) ≡ written alg kid payload signature
  items_are =
      ap items_of (sym bytes_are)
      ∙ (reads_list 1 (written alg kid payload signature) (omega arith) (omega arith)
      (all_weaker (IsValid 1) (IsItem 1) (λ b is. (fine_from 1 b is).item) (written alg kid payload signature)
      parts_valid)).1

  message_is : message_in (sign1_bytes alg kid payload signature) ≡ Some (meant alg kid payload signature)
  message_is =
      ap (λ (x : List ℕ). parts_in (items_of x))
      (not_tagged _ (ap tag_of (sym bytes_are) ∙ list_tag 4 _ (omega arith)))
      ∙ ap parts_in items_are
      ∙ parts_said _ _ _ _ (protected_bytes alg) signature (of_key kid) payload
      ((reads_bytes (protected_bytes alg) (protected_short alg)).1)
      (headers_said (unprotected_bytes kid) (of_key kid) (unprotected_is kid key_short))
      (payload_said payload payload_short) ((reads_bytes signature short).1)

  says_it : Says alg kid payload signature (meant alg kid payload signature)
  says_it = record {
    algorithm = algorithm_read alg;
    key = ap (option_or (key_in (of_key kid))) (no_key_inside alg) ∙ key_read kid key_short;
    certificate = ap₂ (λ (a b : Option (List ℕ)). option_or a b) (no_leaf kid) (no_leaf_inside alg);
    content = refl;
    seal = refl;
    drafted = λ content. refl;
  }

  breaks_none : (expected : Payload) → is_where expected payload ≡ true
      → sign1_rule expected (sign1_bytes alg kid payload signature) ≡ None
  unfolding sign1_rule
  breaks_none expected e =
      ap (rule_of_parts expected) message_is
      ∙ none_broken (meant alg kid payload signature) expected (cose_number alg) (protected_unbroken alg)
      (algorithm_read alg) (not_critical alg) (key_not_critical kid) e

  pub reads_as : ReadsAs (sign1_bytes alg kid payload signature) alg kid payload signature
  reads_as = record {
    valid = λ depth low high. valid_deeper 2 depth _ low high is_valid;
    unbroken = breaks_none;
    says = subst (λ (o : Option Message). IsSomeAnd o (Says alg kid payload signature))
        (sym message_is) says_it;
  }

key_fits : (kid : Option (List ℕ)) (most : ℕ) → length (unprotected_bytes kid) ≤ most → most < 2 ^ 64
    → IsShort kid
key_fits None most le lt = tt
key_fits (Some kid) most le lt = omega (
  arith,
  back_short (161 ∷ []) (whole_bytes (pos 4) ++ byte_string_bytes kid),
  back_short (whole_bytes (pos 4)) (byte_string_bytes kid),
  back_short (head_bytes 2 (length kid)) kid,
  le,
  lt,
)

payload_fits : (payload : Option (List ℕ)) (most : ℕ) → length (payload_bytes payload) ≤ most → most < 2 ^ 64
    → IsShort payload
payload_fits None most le lt = tt
payload_fits (Some bytes) most le lt = omega (arith, back_short (head_bytes 2 (length bytes)) bytes, le, lt)

-- each part of a message is no longer than the message
pub written_is_read : (alg : SignAlg) (kid payload : Option (List ℕ)) (signature : List ℕ)
    → length (sign1_bytes alg kid payload signature) < 2 ^ 64
    → ReadsAs (sign1_bytes alg kid payload signature) alg kid payload signature
written_is_read alg kid payload signature lt =
    let hp = head_bytes 4 4 ++ byte_string_bytes (protected_bytes alg) in
    let u = unprotected_bytes kid in
    let c = payload_bytes payload in
    let s = byte_string_bytes signature in
    let last = front_short ((hp ++ u) ++ c) s in
    let third = front_short (hp ++ u) c in
    let most = length (sign1_bytes alg kid payload signature) in
    reads_as alg kid payload signature
    (key_fits kid most (omega (arith, back_short hp u, third, last)) lt)
    (payload_fits payload most (omega (arith, back_short (hp ++ u) c, last)) lt)
    (omega (arith, back_short ((hp ++ u) ++ c) s, back_short (head_bytes 2 (length signature)) signature, lt))

pub read_from : (bytes : List ℕ) (alg : SignAlg) (kid payload : Option (List ℕ)) (signature : List ℕ)
    → bytes ≡ sign1_bytes alg kid payload signature → length bytes < 2 ^ 64
    → ReadsAs bytes alg kid payload signature
read_from bytes alg kid payload signature e lt =
    subst (λ (x : List ℕ). ReadsAs x alg kid payload signature) (sym e)
    (written_is_read alg kid payload signature (subst (λ (x : List ℕ). length x < 2 ^ 64) e lt))

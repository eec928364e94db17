-- A message that is written is read as what was meant.
use Rattle.std.proofs.Common.{◌≡◌, ℕ, zero, suc, ◌+◌, ◌/◌, ◌%◌, ◌<◌, ◌≤◌, ◌==◌, Bool, true, false, cond}
use Rattle.std.proofs.Common.{List, [], ◌∷◌}
use Rattle.std.proofs.Common.{◌++◌, codes, Option, Some, None, IsUtf8, append_assoc, refl, sym, ap, subst}
use Rattle.std.proofs.Common.{◌∙◌, arith, inl}
use Rattle.std.proofs.Common.{inr, ltb-true}
use Rattle.std.specs.Prelude.{Ok, nat_lt}
use Rattle.std.specs.Result.{result_ok}
use Rattle.std.specs.List.{AllByRecursion, list_all, slice_split, onto_first}
use Rattle.std.specs.Str.{is_utf8}
use Rattle.std.proofs.Math.Utf8.{scalar, scalars, encode, encodes, scalar_cases}
use Rattle.std.proofs.lemmas.Bool.{and_parts, cases_Bool}
use Rattle.std.proofs.lemmas.Bool.Decides.{nat_tests}
use Rattle.std.proofs.lemmas.Str.{is_utf8-from_IsUtf8, IsUtf8-from_is_utf8}
use Rattle.std.proofs.lemmas.List.Splits.{slice_split-cons_no, slice_split-cons_yes}
use Rattle.base64.specs.GeneralPurpose.{IsBytes}
use Rattle.serde_json.specs.Data.{Data, depth}
use Rattle.serde_json.specs.Read.{read, max_depth}
use Rattle.serde_json.specs.Written.{compact_text}
use Rattle.base_forms.specs.Rules.{rule, unless_broken}
use Rattle.base_forms.specs.Url64.{is_url64, url64_of, url64_rule, url64_bytes, grouped}
use Rattle.base_forms.proofs.Encodings as encodings
use Rattle.json_forms.specs.Look.{is_object}
use Rattle.json_forms.specs.Text.{json_of}
use Rattle.claim_tree.specs.declared.algorithm.SignAlg.{SignAlg}
use Rattle.claim_tree.specs.declared.algorithm.SignAlg.TheVariants.{Es256, EdDsa, Bench256}
use Rattle.jws_envelope.specs.Compact.{Text, dot_parts}
use Rattle.jws_envelope.specs.Draft.{header_of, input_of, message_of, meant, IsReadAs}
use Rattle.jws_envelope.specs.Envelope.{envelope_of, content_rule, parts_rule, jws_rule, jws_of}
use Rattle.jws_envelope.proofs.Dots.{is_dot}

-- ---- bytes of UTF-8

abbrev Small : List ℕ → Type 0
Small bs = AllByRecursion (λ b. b < 256) bs

below_top : (c : ℕ) → scalar c ≡ true → c < 1_114_112
below_top c h = elim (scalar_cases c h) [ inl low ↦ omega arith | inr high ↦ high.1 ]

small_at : (c : ℕ) → c < 1_114_112 → (x y z : Bool) → nat_lt c 128 ≡ x → nat_lt c 2048 ≡ y
    → nat_lt c 65536 ≡ z
    → Small (cond x (c ∷ []) (cond y ((192 + c / 64) ∷ (128 + c % 64) ∷ [])
    (cond z ((224 + c / 4096) ∷ (128 + c / 64 % 64) ∷ (128 + c % 64) ∷ [])
    ((240 + c / 262144) ∷ (128 + c / 4096 % 64) ∷ (128 + c / 64 % 64) ∷ (128 + c % 64) ∷ []))))
small_at c top true y z a b d = let low = ltb-true c 128 a in (omega arith, tt)
small_at c top false true z a b d = let low = ltb-true c 2048 b in (omega arith, (omega arith, tt))
small_at c top false false true a b d =
    let low = ltb-true c 65536 d in (omega arith, (omega arith, (omega arith, tt)))
small_at c top false false false a b d = (omega arith, (omega arith, (omega arith, (omega arith, tt))))

small_char : (c : ℕ) → scalar c ≡ true → Small (encode c)
unfolding encode
small_char c h =
    small_at c (below_top c h) (nat_lt c 128) (nat_lt c 2048) (nat_lt c 65536) refl refl refl

small_joined : (xs ys : List ℕ) → Small xs → Small ys → Small (xs ++ ys)
small_joined [] ys a b = b
small_joined (x ∷ xs) ys a b = (a.0, small_joined xs ys a.1 b)

small_chars : (cs : List ℕ) → scalars cs ≡ true → Small (encodes cs)
small_chars [] h = tt
small_chars (c ∷ cs) h =
    let both = and_parts (scalar c) (scalars cs) h in
    small_joined (encode c) (encodes cs) (small_char c both.0) (small_chars cs both.1)

small_bytes : (bs : List ℕ) → Small bs → IsBytes bs
small_bytes [] h i = omega arith
small_bytes (b ∷ bs) h zero = h.0
small_bytes (b ∷ bs) h (suc i) = small_bytes bs h.1 i

utf8_bytes : (bs : List ℕ) → IsUtf8 bs → IsBytes bs
utf8_bytes bs u = small_bytes bs (subst Small u.1.1 (small_chars u.0 u.1.0))

-- ---- base64url

url64_back : (b : List ℕ) → IsBytes b → url64_bytes (url64_of b) ≡ Some b
url64_back b h = ap result_ok (encodings.read (url64_of b) b h refl)

alphabet_held : (s : Text) (b : Bool) → list_all is_url64 s ≡ b → url64_rule s ≡ None → b ≡ true
unfolding url64_rule rule
alphabet_held s true e h = refl
alphabet_held s false e h = let broken : Some 1 ≡ None = (rw e at h) in absurd (cc broken)

rule_none : (o : Option ℕ) (t b : List ℕ) → unless_broken o t ≡ Ok b → o ≡ None
rule_none None t b e = refl
rule_none (Some n) t b e = absurd (cc e)

url64_alphabet : (b : List ℕ) → IsBytes b → list_all is_url64 (url64_of b) ≡ true
url64_alphabet b h =
    alphabet_held (url64_of b) (list_all is_url64 (url64_of b)) refl
    (rule_none (url64_rule (url64_of b)) (grouped (url64_of b)) b (encodings.read (url64_of b) b h refl))

-- ---- no dot stands in base64url

abbrev HasNoDot : Text → Type 0
HasNoDot s = AllByRecursion (λ b. is_dot b ≡ false) s

no_dot : (b : ℕ) → is_url64 b ≡ true → is_dot b ≡ false
no_dot b h = elim (cases_Bool (is_dot b)) [
  | inl same ↦
      let is : b ≡ 46 = grind (arith, nat_tests) in
      let clash : false ≡ true = ap is_url64 (sym is) ∙ h in
      absurd (cc clash)
  | inr other ↦ other
]

none_in : (s : Text) → list_all is_url64 s ≡ true → HasNoDot s
none_in [] h = tt
none_in (b ∷ s) h =
    let both = and_parts (is_url64 b) (list_all is_url64 s) h in (no_dot b both.0, none_in s both.1)

undotted : (b : List ℕ) → IsBytes b → HasNoDot (url64_of b)
undotted b h = none_in (url64_of b) (url64_alphabet b h)

cut_none : (s : Text) → HasNoDot s → dot_parts s ≡ s ∷ []
cut_none [] h = refl
cut_none (b ∷ s) h = slice_split-cons_no is_dot b s h.0 ∙ ap (onto_first b) (cut_none s h.1)

cut_at : (s rest : Text) → HasNoDot s → dot_parts (s ++ 46 ∷ rest) ≡ s ∷ dot_parts rest
cut_at [] rest h = slice_split-cons_yes is_dot 46 rest refl
cut_at (b ∷ s) rest h = slice_split-cons_no is_dot b (s ++ 46 ∷ rest) h.0
    ∙ ap (onto_first b) (cut_at s rest h.1)

-- ---- values in compact JSON

-- the compact text of a value is one JSON text, of this value
abbrev pub IsReadBack : Data → Type 0
IsReadBack d = json_of (compact_text d) ≡ Some d

pub read_back : (s : Text) (d : Data) → s ≡ compact_text d → IsUtf8 s → read s ≡ Some d → IsReadBack d
read_back s d e u r =
    subst (λ t. json_of t ≡ Some d) e (ap (λ b. cond b (read s) None) (is_utf8-from_IsUtf8 s u) ∙ r)

text_utf8 : (s : Text) (d : Data) (b : Bool) → is_utf8 s ≡ b → cond b (read s) None ≡ Some d → b ≡ true
text_utf8 s d true e h = refl
text_utf8 s d false e h = absurd (cc h)

text_bytes : (d : Data) → IsReadBack d → IsBytes (compact_text d)
text_bytes d h =
    utf8_bytes (compact_text d)
    (IsUtf8-from_is_utf8 (compact_text d) (text_utf8 (compact_text d) d (is_utf8 (compact_text d)) refl h))

-- ---- messages

module _ (header payload : Data) (h : IsReadBack header) (p : IsReadBack payload) where
  module _ (signature : List ℕ) (s : IsBytes signature) where
    abbrev message : Text
    message = message_of (input_of header payload) signature

    grouped_apart : message
        ≡ url64_of (compact_text header) ++ 46 ∷ (url64_of (compact_text payload) ++ 46 ∷ url64_of signature)
    grouped_apart =
        append_assoc (url64_of (compact_text header)) (46 ∷ url64_of (compact_text payload))
        (46 ∷ url64_of signature)

    parts_are : dot_parts message
        ≡ url64_of (compact_text header) ∷ url64_of (compact_text payload) ∷ url64_of signature ∷ []
    parts_are =
        ap dot_parts grouped_apart
        ∙ cut_at (url64_of (compact_text header)) _ (undotted (compact_text header) (text_bytes header h))
        ∙ ap (λ ps. url64_of (compact_text header) ∷ ps)
        (cut_at (url64_of (compact_text payload)) (url64_of signature)
        (undotted (compact_text payload) (text_bytes payload p))
        ∙ ap (λ ps. url64_of (compact_text payload) ∷ ps)
        (cut_none (url64_of signature) (undotted signature s)))

    says : envelope_of (dot_parts message)
        ≡ meant header payload (input_of header payload) signature
    says =
        ap envelope_of parts_are
        ∙ rw (
          url64_back (compact_text header) (text_bytes header h),
          url64_back (compact_text payload) (text_bytes payload p),
          url64_back signature s,
          h,
          p,
        ) refl

    breaks_none : content_rule header payload ≡ None → jws_rule message ≡ None
    unfolding parts_rule rule
    breaks_none e =
        ap parts_rule parts_are
        ∙ rw (
          url64_back (compact_text header) (text_bytes header h),
          url64_back (compact_text payload) (text_bytes payload p),
          url64_back signature s,
          h,
          p,
          e,
        ) refl

  pub message_read : content_rule header payload ≡ None → IsReadAs header payload (input_of header payload)
  message_read e signature s =
      ap (λ r. unless_broken r (envelope_of (dot_parts (message signature s)))) (breaks_none signature s e)
      ∙ ap (λ x. Ok x) (says signature s)

-- ---- the header that is written

-- it breaks no rule before any payload that is an object
pub header_rule : (alg : SignAlg) (typ : Text) (kid : Option Text) (payload : Data)
    → is_object payload ≡ true → content_rule (header_of alg typ kid) payload ≡ None
unfolding rule
header_rule Es256 typ None payload o = rw o refl
header_rule Es256 typ (Some k) payload o = rw o refl
header_rule EdDsa typ None payload o = rw o refl
header_rule EdDsa typ (Some k) payload o = rw o refl
header_rule Bench256 typ None payload o = rw o refl
header_rule Bench256 typ (Some k) payload o = rw o refl

-- it is one object of texts
header_depth : (alg : SignAlg) (typ : Text) (kid : Option Text) → depth (header_of alg typ kid) ≤ max_depth
header_depth alg typ None = omega arith
header_depth alg typ (Some k) = omega arith

pub drafted_read : (alg : SignAlg) (typ : Text) (kid : Option Text) (h payload : Data) (input : Text)
    → h ≡ header_of alg typ kid → input ≡ input_of (header_of alg typ kid) payload
    → is_object payload ≡ true → (depth h ≤ max_depth → IsReadBack h) → IsReadBack payload
    → IsReadAs (header_of alg typ kid) payload input
drafted_read alg typ kid h payload input is written object again p =
    let header = header_of alg typ kid in
    let back : IsReadBack header =
    subst (λ d. depth d ≤ max_depth → IsReadBack d) is again (header_depth alg typ kid) in
    subst (IsReadAs header payload) (sym written)
    (message_read header payload back p (header_rule alg typ kid payload object))

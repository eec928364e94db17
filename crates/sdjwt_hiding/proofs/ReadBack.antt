-- What is written as a disclosure is read as what was disclosed.
use Rattle.std.proofs.Common.{◌≡◌, ◌≤◌, ℕ, false, cond, Option, Some, None, option_map, option_and_then}
use Rattle.std.proofs.Common.{IsUtf8, refl, sym, ap, ◌∙◌, subst, arith}
use Rattle.std.specs.Result.{result_ok}
use Rattle.std.proofs.lemmas.Bool.{or_from}
use Rattle.std.proofs.lemmas.Str.{is_utf8-from_IsUtf8}
use Rattle.base64.specs.GeneralPurpose.{IsBytes}
use Rattle.serde_json.specs.Data.{Data, depth}
use Rattle.serde_json.specs.Read.{max_depth, read}
use Rattle.serde_json.specs.Written.{has_float, compact_text}
use Rattle.base_forms.specs.Texts.{Utf8}
use Rattle.base_forms.specs.Url64.{url64_of}
use Rattle.base_forms.specs.declared.hash.HashName.TheVariants.{Sha256}
use Rattle.base_forms.proofs.Encodings as encodings
use Rattle.json_forms.specs.Look.{elements_of}
use Rattle.json_forms.specs.Text.{json_of}
use Rattle.sdjwt_digests.specs.Disclosures.{salted, json_in, digest_of}
use Rattle.sdjwt_hiding.specs.Disclosing.{salted_value, disclosure_text, written_as, IsReadBack}

salted_depth : (n : ℕ) (name : Option Utf8) (v : Data) → depth v ≤ 126
    → depth (salted_value n name v) ≤ max_depth
salted_depth n None v h = omega arith
salted_depth n (Some name) v h = omega arith

salted_back : (n : ℕ) (name : Option Utf8) (v : Data)
    → salted (elements_of (salted_value n name v)) ≡ Some (name, v)
salted_back n None v = refl
salted_back n (Some k) v = refl

value_back : (s : Utf8) (d : Data) → s ≡ compact_text d → IsUtf8 s → IsBytes s → read s ≡ Some d
    → json_in (url64_of (compact_text d)) ≡ Some d
value_back s d is u b r =
    ap json_in (ap url64_of (sym is))
    ∙ ap (option_and_then json_of) (ap result_ok (encodings.read (url64_of s) s b refl))
    ∙ ap (λ c. cond c (read s) None) (is_utf8-from_IsUtf8 s u) ∙ r

salted_whole : (n : ℕ) (name : Option Utf8) (v : Data) → has_float v ≡ false
    → has_float (salted_value n name v) ≡ false
salted_whole n None v h = or_from (has_float v) false h refl
salted_whole n (Some k) v h = or_from (has_float v) false h refl

pub disclosed_back : (n : ℕ) (name : Option Utf8) (v d : Data) (s : Utf8) → d ≡ salted_value n name v
    → (has_float d ≡ false → s ≡ compact_text d) → IsUtf8 s → IsBytes s
    → (depth d ≤ max_depth → read s ≡ Some d)
    → has_float v ≡ false → IsReadBack (written_as n name v)
disclosed_back n name v d s value text u b r whole deep =
    let again : read s ≡ Some (salted_value n name v) =
    subst (λ w. depth w ≤ max_depth → read s ≡ Some w) value r (salted_depth n name v deep) in
    let is : s ≡ compact_text (salted_value n name v) =
    subst (λ w. has_float w ≡ false → s ≡ compact_text w) value text (salted_whole n name v whole) in
    ap (λ o. option_map (λ (p : Option Utf8 × Data). record {
      digest =
          digest_of Sha256 (disclosure_text n name v);
      name = p.0;
      value = p.1;
    })
    (option_and_then (λ w. salted (elements_of w)) o))
    (value_back s (salted_value n name v) is u b again)
    ∙ ap (option_map (λ (p : Option Utf8 × Data). record {
      digest =
          digest_of Sha256 (disclosure_text n name v);
      name = p.0;
      value = p.1;
    })) (salted_back n name v)

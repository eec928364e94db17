-- The text of bytes, without a line feed at its end.
use Rattle.std.proofs.Common.{◌≡◌, ◌<◌, ◌-◌, ◌∙◌, ℕ, List, [], ◌∷◌, ◌++◌, Bool, true, false, cond, Some, None}
use Rattle.std.proofs.Common.{refl, sym, ap, length, take, arith}
use Rattle.std.specs.List.{slice_index}
use Rattle.std.specs.Str.{IsUtf8, is_utf8}
use Rattle.std.proofs.lemmas.List.{length-append}
use Rattle.std.proofs.Math.Seq.{get_or-append_seam}
use Rattle.std.proofs.lemmas.Str.{IsUtf8-from_is_utf8, is_utf8-from_IsUtf8}
use Rattle.options_files.specs.Contents.{text_in}
use Rattle.wallet_files.specs.CredentialFile.{without_feed}
use Rattle.wallet_files.proofs.Feeds.{feed_is_cut}

chosen : (bytes : List ℕ) (is : Bool) → is_utf8 bytes ≡ is
    → text_in bytes ≡ cond is (Some (without_feed bytes)) None
chosen bytes is e = ap (λ (b : Bool). cond b (Some (without_feed bytes)) None) e

pub text_of_utf8 : (bytes : List ℕ) → IsUtf8 bytes → text_in bytes ≡ Some (without_feed bytes)
text_of_utf8 bytes utf8 = chosen bytes true (is_utf8-from_IsUtf8 bytes utf8)

none_by : (bytes : List ℕ) (is : Bool) → is_utf8 bytes ≡ is → (IsUtf8 bytes → ⊥) → text_in bytes ≡ None
none_by bytes true e none = absurd (none (IsUtf8-from_is_utf8 bytes e))
none_by bytes false e none = chosen bytes false e

pub none_of_others : (bytes : List ℕ) → (IsUtf8 bytes → ⊥) → text_in bytes ≡ None
none_of_others bytes none = none_by bytes (is_utf8 bytes) refl none

-- ---- the line feed

last_byte : (front text : List ℕ) → text ≡ front ++ 10 ∷ []
    → (0 < length text) × (slice_index text (length text - 1) < 128)
last_byte front text is =
    let at : length text - 1 ≡ length front = omega (arith, ap length is, length-append front (10 ∷ [])) in
    let last = ap (λ t. slice_index t (length text - 1)) is ∙ ap (slice_index (front ++ 10 ∷ [])) at
    ∙ get_or-append_seam front 10 [] 0 in
    (omega (arith, ap length is, length-append front (10 ∷ [])), omega (arith, last))

-- its last character is taken off a text of this length that ends in a line feed
pub feed_is_popped : (text left : List ℕ) (n : ℕ) → n ≡ length text
    → text ≡ take (length text - 1) text ++ 10 ∷ []
    → (0 < n → slice_index text (n - 1) < 128 → left ≡ take (n - 1) text) → left ≡ without_feed text
feed_is_popped text left n long is popped =
    let last = last_byte (take (length text - 1) text) text is in
    let here = rw long at popped in
    here last.0 last.1 ∙ sym (feed_is_cut (take (length text - 1) text)) ∙ ap without_feed (sym is)

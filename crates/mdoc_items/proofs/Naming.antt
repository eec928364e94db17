-- Looking for a name in a map, entry by entry.
use Rattle.std.proofs.Common.{rules, codes, ◌≡◌, List, ℕ, ◌∷◌, Bool, true, false, Option, Some, None}
use Rattle.std.proofs.Common.{option_and_then, refl, sym, ap, ◌∙◌, inl, inr, if◌then◌else◌}
use Rattle.std.proofs.lemmas.Bool.{cases_Bool}
use Rattle.std.proofs.lemmas.Str.{is_utf8-from_IsUtf8}
use Rattle.std.proofs.lemmas.Slice.Eq.{bytes_eq-Decides}
use Rattle.std.specs.Option.{option_or, option_map_or}
use Rattle.std.specs.Str.{bytes_eq, is_utf8}
use Rattle.cbor_core.specs.Views.{Span, text_of, utf8_text_of, if_utf8, is_text, find_in}
use Rattle.mdoc_items.specs.MapFields.{Utf8, Entries, is_named}
use Rattle.mdoc_items.specs.code.ItemFields.{or_named}

module _ (wanted : Utf8) (fine : is_utf8 wanted ≡ true) where
  -- bytes that are no UTF-8 are not the name
  unlike : (text : List ℕ) (b : Bool) → is_utf8 text ≡ false → bytes_eq text wanted ≡ b → b ≡ false
  unlike text false not_fine eq = refl
  unlike text true not_fine eq = sym fine ∙ sym (ap is_utf8 ((bytes_eq-Decides text wanted).0 eq)) ∙ not_fine

  by_text : (o : Option (List ℕ))
      → option_map_or (λ text. bytes_eq text wanted) (option_and_then if_utf8 o) false ≡ option_map_or
      (λ text. bytes_eq text wanted) o false
  by_text None = refl
  by_text (Some text) = elim (cases_Bool (is_utf8 text)) [
    | inl is ↦ rw is refl
    | inr isnt ↦ rw isnt (sym (unlike text (bytes_eq text wanted) isnt refl))
  ]

  naming : (key : Span) → is_named wanted key ≡ is_text wanted key
  unfolding utf8_text_of
  naming key = by_text (text_of key)

  -- one entry was looked at: its key has a name, or none
  or_at : (found : Option Span) (b : Bool) (item : Span) (rest : Option Span)
      → option_or (option_or found (if b then Some item else None)) rest ≡ option_or found
      (if b then Some item else rest)
  or_at (Some x) b item rest = refl
  or_at None true item rest = refl
  or_at None false item rest = refl

  looked : (key item : Span) (es : Entries) (found : Option Span)
      → option_or (option_or found (if is_named wanted key then Some item else None))
      (find_in wanted es) ≡ option_or found (find_in wanted ((key, item) ∷ es))
  looked key item es found = or_at found (is_named wanted key) item (find_in wanted es)
      ∙ ap (λ b. option_or found (if b then Some item else find_in wanted es)) (naming key)

  pub past_named : (key item : Span) (es : Entries) (found : Option Span) (name : Utf8)
      → utf8_text_of key ≡ Some name
      → option_or (or_named wanted name item found) (find_in wanted es) ≡ option_or found
      (find_in wanted ((key, item) ∷ es))
  past_named key item es found name is =
      sym (ap (λ (o : Option Utf8). option_or
      (option_or found (if option_map_or (λ text. bytes_eq text wanted) o false then Some item else None))
      (find_in wanted es)) is) ∙ looked key item es found

  or_none : (o : Option Span) → option_or o None ≡ o
  or_none None = refl
  or_none (Some x) = refl

  pub past_unnamed : (key item : Span) (es : Entries) (found : Option Span) → utf8_text_of key ≡ None
      → option_or found (find_in wanted es) ≡ option_or found (find_in wanted ((key, item) ∷ es))
  past_unnamed key item es found is =
      sym (ap (λ o. option_or o (find_in wanted es)) (or_none found))
      ∙ sym (ap (λ (o : Option Utf8). option_or
      (option_or found (if option_map_or (λ text. bytes_eq text wanted) o false then Some item else None))
      (find_in wanted es)) is)
      ∙ looked key item es found

-- ---- the names

pub digest_id_fine : is_utf8 (codes "digestID") ≡ true
digest_id_fine = is_utf8-from_IsUtf8 (codes "digestID") (search rules)

pub random_fine : is_utf8 (codes "random") ≡ true
random_fine = is_utf8-from_IsUtf8 (codes "random") (search rules)

pub element_identifier_fine : is_utf8 (codes "elementIdentifier") ≡ true
element_identifier_fine = is_utf8-from_IsUtf8 (codes "elementIdentifier") (search rules)

pub element_value_fine : is_utf8 (codes "elementValue") ≡ true
element_value_fine = is_utf8-from_IsUtf8 (codes "elementValue") (search rules)

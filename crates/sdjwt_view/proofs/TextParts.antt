-- The parts of a text by its pieces.
use Rattle.std.proofs.Common.{◌≡◌, ◌==◌, true, false, List, [], ◌∷◌, ◌++◌, length, map, Option, Some, None}
use Rattle.std.proofs.Common.{option_map, Bor, refl, ap, ◌∙◌, arith}
use Rattle.std.proofs.lemmas.Bool.Decides.{nat_tests}
use Rattle.std.proofs.lemmas.List.{map-append}
use Rattle.base_forms.specs.Texts.{Utf8}
use Rattle.sdjwt_view.specs.Reading.{before_empty, parts_of}

step : (t u : Utf8) (us : List Utf8)
    → before_empty (t ∷ u ∷ us) ≡ option_map (λ vs. t ∷ vs) (before_empty (u ∷ us))
step [] u us = refl
step (x ∷ xs) u us = refl

pub empty_end : (t : Utf8) → (length t == 0) ≡ true → before_empty (t ∷ []) ≡ Some []
empty_end [] h = refl
empty_end (x ∷ xs) h = absurd (grind (arith, nat_tests))

pub full_end : (t : Utf8) → (length t == 0) ≡ false → before_empty (t ∷ []) ≡ None
full_end [] h = cc
full_end (x ∷ xs) h = refl

none_before : (o : Option (List Utf8)) → o ≡ option_map (λ us. [] ++ us) o
none_before None = refl
none_before (Some us) = refl

one_before : (s : Utf8) (ts : List Utf8) (o : Option (List Utf8))
    → option_map (λ vs. s ∷ vs) (option_map (λ us. ts ++ us) o) ≡ option_map (λ us. (s ∷ ts) ++ us) o
one_before s ts None = refl
one_before s ts (Some us) = refl

before_more : (ts : List Utf8) (t : Utf8)
    → before_empty (ts ++ t ∷ []) ≡ option_map (λ us. ts ++ us) (before_empty (t ∷ []))
before_more [] t = none_before (before_empty (t ∷ []))
before_more (s ∷ []) t = step s t [] ∙ ap (option_map (λ vs. s ∷ vs)) (none_before (before_empty (t ∷ [])))
    ∙ one_before s [] (before_empty (t ∷ []))
before_more (s ∷ u ∷ us) t = step s u (us ++ t ∷ []) ∙ ap (option_map (λ vs. s ∷ vs)) (before_more (u ∷ us) t)
    ∙ one_before s (u ∷ us) (before_empty (t ∷ []))

abbrev pub texts : List (Bor Utf8) → List Utf8
texts ts = map (λ s. s.now) ts

pub parts_at : (ps : List (Bor Utf8)) (jws last : Bor Utf8) (rest ds : List (Bor Utf8)) → ps ≡ jws ∷ rest
    → rest ≡ ds ++ last ∷ []
    → parts_of (texts ps) ≡ option_map (λ ts. (jws.now, ts))
    (option_map (λ us. texts ds ++ us) (before_empty (last.now ∷ [])))
parts_at ps jws last rest ds e f =
    ap (λ xs. parts_of (texts xs)) e
    ∙ ap (λ xs. option_map (λ ts. (jws.now, ts)) (before_empty (texts xs))) f
    ∙ ap (λ xs. option_map (λ ts. (jws.now, ts)) (before_empty xs))
    (map-append (λ (s : Bor Utf8). s.now) ds (last ∷ []))
    ∙ ap (option_map (λ ts. (jws.now, ts))) (before_more (texts ds) last.now)

-- A date with its time is read back.
use Rattle.std.proofs.Common.{◌≡◌, ℕ, ◌+◌, ◌/◌, ◌%◌, ◌<◌, true, List, [], ◌∷◌, ◌++◌, length, Some}
use Rattle.std.proofs.Common.{option_and_then}
use Rattle.std.proofs.Common.{refl, ap, ◌∙◌, arith}
use Rattle.std.specs.List.{AllByRecursion}
use Rattle.std.specs.Str.{is_utf8}
use Rattle.std.proofs.lemmas.List.Elements.{All-from_recursion}
use Rattle.std.proofs.lemmas.Str.{is_utf8-from_IsUtf8, IsUtf8-from_ascii}
use Rattle.std.proofs.lemmas.Str.Ascii.{IsAscii-from_all}
use Rattle.cbor_core.specs.Writing.{text_bytes}
use Rattle.cbor_core.proofs.Fine.{IsFine}
use Rattle.cbor_core.proofs.FineWritten.{fine_text_written, fine_tag_written}
use Rattle.cbor_core.proofs.Written.{reads_text, reads_tag}
use Rattle.mdoc_dates.specs.Laws.{year_10000}
use Rattle.mdoc_dates.specs.Tdate.{Day, date_of, date_text, time_text, tdate_text}
use Rattle.mdoc_dates.proofs.Texts.{texts_read}
use Rattle.mdoc_object.specs.SecurityObject.{tdate_bytes}
use Rattle.mdoc_security.specs.MobileSecurityObject.{moment_under, moment_of}
use Rattle.mdoc_written.proofs.Texts.{utf8_written}

abbrev text_of : Day → ℕ → List ℕ
text_of d s = date_text d ++ 84 ∷ [] ++ time_text s ++ 90 ∷ []

ascii : (d : Day) (s : ℕ) → AllByRecursion (λ b. b < 128) (text_of d s)
ascii d s = (
  omega arith,
  (
    omega arith,
    (
      omega arith,
      (
        omega arith,
        (
          omega arith,
          (
            omega arith,
            (
              omega arith,
              (
                omega arith,
                (
                  omega arith,
                  (
                    omega arith,
                    (
                      omega arith,
                      (
                        omega arith,
                        (
                          omega arith,
                          (
                            omega arith,
                            (
                              omega arith,
                              (omega arith, (omega arith, (omega arith, (omega arith, (omega arith, tt))))),
                            ),
                          ),
                        ),
                      ),
                    ),
                  ),
                ),
              ),
            ),
          ),
        ),
      ),
    ),
  ),
)

is_text : (d : Day) (s : ℕ) → is_utf8 (text_of d s) ≡ true
is_text d s =
    is_utf8-from_IsUtf8 (text_of d s)
    (IsUtf8-from_ascii (text_of d s)
    (IsAscii-from_all (text_of d s) (All-from_recursion (λ b. b < 128) (text_of d s) (ascii d s))))

pub tdate_text_fine : (s : ℕ) → is_utf8 (tdate_text s) ≡ true
tdate_text_fine s = is_text (date_of (s / 86_400)) s

pub tdate_fine : (depth s : ℕ) → depth < 40 → IsFine (depth + 1) (tdate_bytes s)
tdate_fine depth s less =
    let e : depth + 1 ≡ Rattle.std.proofs.Common.suc depth = omega arith in
    rw e (fine_tag_written depth (omega arith) 0 (text_bytes (tdate_text s)) (omega arith)
    (fine_text_written depth (tdate_text s) (omega arith) (tdate_text_fine s)))

pub moment_is : (s : ℕ) → s < year_10000 → moment_of (tdate_bytes s) ≡ Some s
moment_is s lt =
    let text = tdate_text s in
    ap (option_and_then moment_under)
    (reads_tag 0 0 (text_bytes text) (omega arith) (reads_text text (omega arith)).0).1
    ∙ ap (option_and_then Rattle.base_forms.specs.Tdate.tdate_of)
    (utf8_written text (omega arith) (tdate_text_fine s))
    ∙ texts_read s lt

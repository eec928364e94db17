-- What disclosures in memory are.
use Rattle.std.specs.Prelude.{ℕ, List, map, string_bytes}
use Rattle.base_forms.specs.Texts.{Utf8}
use Rattle.sdjwt_hiding.specs.declared.disclosure_text.IssuedDisclosure.{IssuedDisclosure}

-- its number, its digest and its text
abbrev pub made_of : IssuedDisclosure → ℕ × Utf8 × Utf8
made_of d = (d.number, string_bytes d.digest, string_bytes d.text)

abbrev pub all_made : List IssuedDisclosure → List (ℕ × Utf8 × Utf8)
all_made ds = map made_of ds

-- The computed reading is the relation of the standard (RFC 9901, section 7.1): both ways, and at most one
-- content.
use Rattle.std.specs.Prelude.{◌≡◌, Some, None}
use Rattle.base_forms.specs.Texts.{Utf8}
use Rattle.sdjwt_view.specs.Reading.{Content, refusal_of, content_in}
use Rattle.sdjwt_view.specs.Relation.{Reads}

-- A text that reads as a content breaks no rule and says that content.
abbrev pub ReadIsComputed : Type 0
ReadIsComputed = (text : Utf8) (c : Content) → Reads text c
    → (refusal_of text ≡ None) × (content_in text ≡ Some c)

-- A text that breaks no rule reads as the content that it says.
abbrev pub ComputedIsRead : Type 0
ComputedIsRead = (text : Utf8) (c : Content) → refusal_of text ≡ None → content_in text ≡ Some c
    → Reads text c

-- A text reads as at most one content.
abbrev pub ReadsOne : Type 0
ReadsOne = (text : Utf8) (c d : Content) → Reads text c → Reads text d → c ≡ d

-- The rules of the spec of a test document, and the least that is broken. A document that breaks none can be
-- issued, and is read (ISO/IEC 18013-5, sections 8.3.2.1.2.2 and 9.1.2.4). The limits are this product's own.
-- Rules 2 and 3 are about parts to hide, of which a document has none.
use Rattle.std.specs.Prelude.{ℕ, Bool, not, ◌||◌, nat_lt, is_none, [], ◌∷◌, codes, Option}
use Rattle.serde_json.specs.Data.{Data}
use Rattle.serde_json.specs.Written.{members_have_float}
use Rattle.base_forms.specs.Rules.{rule, first}
use Rattle.mdoc_items.specs.IssuerSignedItems.{most_items}
use Rattle.mdoc_object.specs.Namespaces.{element_count}
use Rattle.sdjwt_hiding.specs.Hiding.{has_free}
use Rattle.mdoc_issue.specs.Spec.{Spec}
use Rattle.mdoc_spec.specs.Elements.{has_deep_element}
use Rattle.mdoc_spec.specs.Meaning.{key_in, kind_in, holder_in, moment_in, claims_in, spec_of}

-- ---- rule 1: a member that is not of its form

abbrev pub form_rule : Data → Option ℕ
form_rule d = first
    (rule 1 (is_none (key_in d))
    ∷ rule 1 (is_none (kind_in d))
    ∷ rule 1 (is_none (holder_in d))
    ∷ rule 1 (is_none (moment_in (codes "from") d))
    ∷ rule 1 (is_none (moment_in (codes "until") d))
    ∷ rule 1 (is_none (claims_in d))
    ∷ [])

-- ---- rules 4 and 5: what the members ask

-- too many elements, one that is too deep, or a number that is no integer
abbrev pub breaks_limit : Spec → Bool
breaks_limit s =
    nat_lt most_items (element_count s.namespaces)
    || (has_deep_element s.namespaces || members_have_float s.namespaces)

-- rule 4: a namespace, an element or a member within its value is named `_sd` or `...`
abbrev pub content_rule : Spec → Option ℕ
content_rule s = first
    (rule 4 (not (has_free s.namespaces))
    ∷ rule 5 (breaks_limit s)
    ∷ [])

-- ---- all

-- the least rule that is broken
abbrev pub spec_rule : Data → Option ℕ
spec_rule d = first (form_rule d ∷ content_rule (spec_of d) ∷ [])

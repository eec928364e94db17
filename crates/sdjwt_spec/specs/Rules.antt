-- The rules of the spec of a test SD-JWT VC, and the least that is broken. A credential that breaks none can
-- be issued, and is read (RFC 9901, sections 4.1, 4.2 and 7.1; SD-JWT VC, section 3.2.2). The limits are this
-- product's own.
use Rattle.std.specs.Prelude.{ℕ, Bool, false, not, ◌||◌, nat_lt, is_none, [], ◌∷◌, length, codes}
use Rattle.std.specs.Prelude.{Option}
use Rattle.std.specs.List.{list_any, list_all}
use Rattle.std.specs.Option.{option_map_or}
use Rattle.serde_json.specs.Data.{Data, object, depth}
use Rattle.serde_json.specs.Written.{members_have_float}
use Rattle.base_forms.specs.Rules.{rule, first}
use Rattle.base_forms.specs.Texts.{is_among}
use Rattle.claim_tree.specs.Tree.{member_names}
use Rattle.claim_tree.specs.Plain.{plain_members as plain_fields}
use Rattle.sdjwt_disclosures.specs.MemberNames.{plain_only}
use Rattle.sdjwt_view.specs.Reading.{most_disclosures}
use Rattle.sdjwt_hiding.specs.Hiding.{is_free, has_free}
use Rattle.sdjwt_issue.specs.Spec.{Spec}
use Rattle.sdjwt_spec.specs.Addresses.{leads_to_part, addresses_differ}
use Rattle.sdjwt_spec.specs.Meaning.{key_in, kind_in, holder_in, moment_in, claims_in, hide_in, spec_of}

-- ---- rule 1: a member that is not of its form

abbrev pub form_rule : Data → Option ℕ
form_rule d = first
    (rule 1 (is_none (key_in d))
    ∷ rule 1 (is_none (kind_in d))
    ∷ rule 1 (is_none (holder_in d))
    ∷ rule 1 (is_none (moment_in (codes "from") d))
    ∷ rule 1 (is_none (moment_in (codes "until") d))
    ∷ rule 1 (is_none (claims_in d))
    ∷ rule 1 (is_none (hide_in d))
    ∷ [])

-- ---- rules 2 to 5: what the members ask

-- each address to hide leads to a part of the claims
abbrev pub leads_each : Spec → Bool
leads_each s = list_all (leads_to_part (object s.claims)) s.hide

-- a claim has the name of what the credential says of itself
abbrev pub names_own : Spec → Bool
names_own s = list_any (λ k. is_among k plain_only) (member_names (plain_fields s.claims))

-- A member at any depth of the claims or of the holder's key is named `_sd` or `...`, or a claim as what the
-- credential says of itself.
abbrev pub has_refused_name : Spec → Bool
has_refused_name s =
    not (has_free s.claims) || (names_own s || option_map_or (λ jwk. not (is_free jwk)) s.holder false)

-- The payload has at most 64 levels, of which it is the first, and the holder's key lies two levels down.
abbrev pub is_too_deep : Spec → Bool
is_too_deep s =
    nat_lt 64 (depth (object s.claims)) || option_map_or (λ jwk. nat_lt 62 (depth jwk)) s.holder false

-- too many addresses or levels, or a number that is no integer
abbrev pub breaks_limit : Spec → Bool
breaks_limit s =
    nat_lt most_disclosures (length s.hide) || (is_too_deep s || members_have_float s.claims)

abbrev pub content_rule : Spec → Option ℕ
content_rule s = first
    (rule 2 (not (leads_each s))
    ∷ rule 3 (not (addresses_differ s.hide))
    ∷ rule 4 (has_refused_name s)
    ∷ rule 5 (breaks_limit s)
    ∷ [])

-- ---- all

-- the least rule that is broken
abbrev pub spec_rule : Data → Option ℕ
spec_rule d = first (form_rule d ∷ content_rule (spec_of d) ∷ [])

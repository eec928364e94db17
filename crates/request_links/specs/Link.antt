-- Links that carry a signed request (RFC 9101, section 5; OpenID4VP 1.0, section 5): the parameters
-- `client_id` and `request` stand in the query of a URL, as a form (URL Standard, section 5). Nothing else of
-- the URL is looked at.
use Rattle.std.specs.Prelude.{ℕ, ◌==◌, ◌||◌, not, nat_lt, Bool, List, [], ◌∷◌, length, codes, Option}
use Rattle.std.specs.Prelude.{None, if◌then◌else◌}
use Rattle.std.specs.List.{position_or_len, before_first, after_first}
use Rattle.std.specs.Str.{bytes_eq}
use Rattle.std.specs.Str.Lossy.{utf8_lossy}
use Rattle.form_urlencoded.specs.Form.{raw_pairs, decode}
use Rattle.base_forms.specs.Rules.{rule, first}

abbrev pub Text : Type 0
Text = List ℕ

abbrev pub is_question_mark : ℕ → Bool
is_question_mark byte = byte == 63

abbrev pub is_number_sign : ℕ → Bool
is_number_sign byte = byte == 35

-- a question mark stands in it
abbrev pub is_link : Text → Bool
is_link text = nat_lt (position_or_len is_question_mark text) (length text)

-- the form: what stands between the first question mark and the first number sign after it
abbrev pub form_of : Text → Text
form_of text = before_first is_number_sign (after_first is_question_mark text)

-- ---- parameters

-- the text that is encoded so; what is not UTF-8 in it stands as U+FFFD
abbrev pub decoded : Text → Text
decoded raw = utf8_lossy (decode raw)

-- the values of the pairs with this name
abbrev pub named : Text → List (Text × Text) → List Text
named name [] = []
named name (pair ∷ pairs) =
    if bytes_eq (decoded pair.0) name then decoded pair.1 ∷ named name pairs else named name pairs

-- the values of a parameter of a link, in their order
abbrev pub values : Text → Text → List Text
values name text = named name (raw_pairs (form_of text))

-- there are two of them, or more
abbrev pub are_doubled : List Text → Bool
are_doubled vs = nat_lt 1 (length vs)

abbrev pub are_none : List Text → Bool
are_none vs = length vs == 0

-- both or none
abbrev pub agree : Bool → Bool → Bool
agree one other = if one then other else not other

-- ---- the rules of a link

-- Of the values of `client_id`, `request` and `request_uri`: 1 one of these stands twice; 2 no client
-- identifier, or both or none of a request and a reference to one; 3 a reference, which is not followed.
abbrev pub values_rule : List Text → List Text → List Text → Option ℕ
values_rule clients requests references = first
    (rule 1 (are_doubled clients || (are_doubled requests || are_doubled references))
    ∷ rule 2 (are_none clients || agree (are_none requests) (are_none references))
    ∷ rule 3 (not (are_none references))
    ∷ [])

abbrev pub parameters_rule : Text → Option ℕ
parameters_rule text = values_rule (values (codes "client_id") text) (values (codes "request") text)
    (values (codes "request_uri") text)

-- the first rule that a text breaks as a link; one that is no link breaks none
abbrev pub link_rule : Text → Option ℕ
link_rule text = if is_link text then parameters_rule text else None

-- ---- what a link carries

pub record Link : Type 0 where
  pub client : Text
  pub object : Text

-- the first value, and the empty text where there is none
abbrev pub first_text : List Text → Text
first_text [] = []
first_text (v ∷ vs) = v

-- the client's identifier and the request object, whatever rules are broken
abbrev pub link_of : Text → Link
link_of text = record {
  client = first_text (values (codes "client_id") text);
  object = first_text (values (codes "request") text);
}

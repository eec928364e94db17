-- What the reader of a link answers.
use Rattle.std.specs.Prelude.{◌≡◌, true, false, Option, Some, None, ⊤}
use Rattle.request_links.specs.Link.{Text, Link, is_link, parameters_rule, link_of}
use Rattle.request_links.specs.declared.error.Error.{Error}
use Rattle.request_links.specs.declared.error.Error.TheVariants.{Refused, NoMemory}

-- none where the text is no link; else what it carries, and it breaks no rule
abbrev pub IsRead : Text → Option Link → Type 0
IsRead text None = is_link text ≡ false
IsRead text (Some link) = (is_link text ≡ true) × (parameters_rule text ≡ None) × (link ≡ link_of text)

-- the text is a link, and the error names its first broken rule; or there was no memory
abbrev pub IsRefusal : Text → Error → Type 0
IsRefusal text (Refused n) = (is_link text ≡ true) × (parameters_rule text ≡ Some n)
IsRefusal text NoMemory = ⊤

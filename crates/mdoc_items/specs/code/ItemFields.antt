-- Looking for a name in a map, entry by entry.
use Rattle.std.specs.Prelude.{Option, Some, None, if◌then◌else◌}
use Rattle.std.specs.Option.{option_or}
use Rattle.std.specs.Str.{bytes_eq}
use Rattle.cbor_core.specs.Views.{Span}
use Rattle.mdoc_items.specs.MapFields.{Utf8}

-- what was found under a name that is wanted, or else an item, if its name is that one
abbrev pub or_named : Utf8 → Utf8 → Span → Option Span → Option Span
or_named wanted name item found = option_or found (if bytes_eq name wanted then Some item else None)

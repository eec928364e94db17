-- `valueDigests` of a mobile security object (ISO/IEC 18013-5, section 9.1.2.4): for each namespace the
-- digests of its items, by their numbers.
use Rattle.std.specs.Prelude.{ℕ, ◌==◌, Bool, false, ◌&&◌, List, [], ◌∷◌, Option, Some, None, option_and_then}
use Rattle.std.specs.Prelude.{is_some, if◌then◌else◌}
use Rattle.std.specs.Option.{option_map_or, option_or}
use Rattle.std.specs.List.{list_all}
use Rattle.cbor_core.specs.Views.{Span, is_map, kind_of, bytes_of, utf8_text_of, entries_of}
use Rattle.mdoc_items.specs.MapFields.{Utf8, Entries, is_named, natural_of}

-- ---- the form: a map from texts to maps from numbers that are not negative to byte strings

abbrev pub is_digest : Span × Span → Bool
is_digest e = is_some (natural_of e.0) && is_some (bytes_of e.1)

abbrev pub is_digest_map : Span → Bool
is_digest_map item = is_map (kind_of item) && list_all is_digest (entries_of item)

abbrev pub is_namespace_digests : Span × Span → Bool
is_namespace_digests e = is_some (utf8_text_of e.0) && is_digest_map e.1

abbrev pub are_digests : Span → Bool
are_digests item = is_map (kind_of item) && list_all is_namespace_digests (entries_of item)

abbrev pub digests_of : Span → Option Entries
digests_of item = if are_digests item then Some (entries_of item) else None

-- ---- looking one up; no key stands twice in a map that was read

abbrev pub is_numbered : ℕ → Span → Bool
is_numbered number key = option_map_or (λ n. n == number) (natural_of key) false

-- the digest of a number
abbrev pub digest_in : ℕ → Entries → Option (List ℕ)
digest_in number [] = None
digest_in number (e ∷ es) =
    option_or (digest_in number es) (if is_numbered number e.0 then bytes_of e.1 else None)

-- the map of a namespace's digests
abbrev pub namespace_at : Utf8 → Entries → Option Span
namespace_at name [] = None
namespace_at name (e ∷ es) = option_or (namespace_at name es) (if is_named name e.0 then Some e.1 else None)

-- the digest of a number in a namespace
abbrev pub digest_at : Utf8 → ℕ → Entries → Option (List ℕ)
digest_at name number entries =
    option_and_then (λ namespace. digest_in number (entries_of namespace)) (namespace_at name entries)

-- `valueDigests` of a mobile security object (ISO/IEC 18013-5, section 9.1.2.4) as an issuer writes it: for
-- each namespace the SHA-256 of its issuer-signed items, by their numbers.
use Rattle.std.specs.Prelude.{pos, List, map}
use Rattle.base_forms.specs.Hash.{digest_by}
use Rattle.base_forms.specs.declared.hash.HashName.TheVariants.{Sha256}
use Rattle.cbor_core.specs.Order.{Pair}
use Rattle.cbor_core.specs.Views.{Span}
use Rattle.cbor_core.specs.Writing.{whole_bytes, byte_string_bytes}
use Rattle.mdoc_object.specs.Namespaces.{WrittenItem, WrittenNamespace}
use Rattle.mdoc_written.specs.Containers.{sorted_map_bytes, named}

-- the number of an item, and the digest of all its bytes
abbrev pub digest_entry : WrittenItem → Pair
digest_entry i = (whole_bytes (pos i.number), byte_string_bytes (digest_by Sha256 i.bytes))

abbrev pub digests_entry : WrittenNamespace → Pair
digests_entry n = named n.name (sorted_map_bytes (map digest_entry n.items))

abbrev pub value_digests_bytes : List WrittenNamespace → Span
value_digests_bytes ns = sorted_map_bytes (map digests_entry ns)

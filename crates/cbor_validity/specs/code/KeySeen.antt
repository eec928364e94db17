-- The meaning of a `Key` (RFC 8949, section 5.6).
use Rattle.cbor_validity.specs.declared.key.Key.{Key}
use Rattle.cbor_validity.specs.declared.key.Key.TheVariants as key
use Rattle.cbor_validity.specs.Keys.{KeyMeaning, whole, text, bytes, encoding}

abbrev pub meaning_of : Key → KeyMeaning
meaning_of (key.Whole z) = whole z
meaning_of (key.Text t) = text t.now
meaning_of (key.Bytes b) = bytes b.now
meaning_of (key.Other s) = encoding s.now

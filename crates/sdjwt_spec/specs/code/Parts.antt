-- What the name of a key says in memory.
use Rattle.std.specs.Prelude.{string_bytes}
use Rattle.base_forms.specs.Texts.{Utf8}
use Rattle.sdjwt_spec.specs.declared.key_names.IssuerKey.{IssuerKey}

abbrev pub parts_of : IssuerKey → Utf8 × Utf8
parts_of k = (string_bytes k.issuer, string_bytes k.key)

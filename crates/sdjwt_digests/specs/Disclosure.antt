-- What a disclosure in memory says (RFC 9901, section 4.2).
use Rattle.std.specs.Prelude.{option_map, string_bytes}
use Rattle.serde_json.specs.View.{view}
use Rattle.sdjwt_digests.specs.Disclosures.{Disclosed}
use Rattle.sdjwt_digests.specs.declared.disclosure.Disclosure.{Disclosure}

abbrev pub said : Disclosure → Disclosed
said d = record {
  digest = string_bytes d.digest;
  name = option_map string_bytes d.name;
  value = view d.value;
}

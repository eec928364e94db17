-- What a spec in memory asks.
use Rattle.std.specs.Prelude.{option_map, string_bytes}
use Rattle.serde_json.specs.View.{view, members_view}
use Rattle.sdjwt_issue.specs.Spec.{Spec}
use Rattle.sdjwt_issue.specs.declared.spec.SdJwtSpec.{SdJwtSpec}

abbrev pub asked_of : SdJwtSpec → Spec
asked_of s = record {
  key_name = s.key_name;
  issuer = string_bytes s.issuer;
  key = string_bytes s.key;
  kind = string_bytes s.kind;
  holder = option_map view s.holder;
  from = s.from;
  until = s.until;
  claims = members_view s.claims.entries;
  hide = s.hide.items;
}

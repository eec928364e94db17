-- What a spec in memory asks.
use Rattle.std.specs.Prelude.{string_bytes}
use Rattle.serde_json.specs.View.{members_view}
use Rattle.mdoc_issue.specs.Spec.{Spec}
use Rattle.mdoc_issue.specs.declared.spec.MdocSpec.{MdocSpec}

abbrev pub asked_of : MdocSpec → Spec
asked_of s = record {
  key_name = s.key_name;
  key = s.key.items;
  kind = string_bytes s.kind;
  holder = s.holder.items;
  from = s.from;
  until = s.until;
  namespaces = members_view s.namespaces.entries;
}

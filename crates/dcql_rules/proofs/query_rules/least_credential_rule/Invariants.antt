use Rattle.std.proofs.Common.{◌≡◌, map, drop}
use Rattle.serde_json.specs.View.{view}
use Rattle.base_forms.specs.Rules.{lesser}
use Rattle.dcql_rules.specs.Rules.{least_credential_rule}
use Rattle.dcql_rules.proofs.query_rules.least_credential_rule.Given as goal

abbrev pub invariant-loop-query : goal.invariant-loop-query
invariant-loop-query l = lesser l.least (least_credential_rule (map view (drop l.query-index l.queries)))
    ≡ least_credential_rule (map view l.queries)

use Rattle.std.proofs.Common.{◌≡◌, map, drop}
use Rattle.serde_json.specs.View.{view}
use Rattle.base_forms.specs.Rules.{lesser}
use Rattle.dcql_rules.specs.Rules.{least_claim_rule}
use Rattle.dcql_rules.proofs.claim_rules.least_claim_rule.Given as goal

abbrev pub invariant-loop-claim : goal.invariant-loop-claim
invariant-loop-claim l = lesser l.least (least_claim_rule l.document (map view (drop l.claim-index l.claims)))
    ≡ least_claim_rule l.document (map view l.claims)

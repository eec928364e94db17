use Rattle.std.proofs.Common.{◌≡◌, drop}
use Rattle.std.specs.List.{list_all}
use Rattle.serde_json.specs.View.{members_view}
use Rattle.serde_json.specs.Data.{object}
use Rattle.sdjwt_spec.specs.Addresses.{leads_to_part}
use Rattle.sdjwt_spec.proofs.rules.lead_to_parts.Given as goal

abbrev pub invariant-loop-address : goal.invariant-loop-address
invariant-loop-address l =
    list_all (leads_to_part (object (members_view l.claims.entries))) (drop l.address-index l.hide)
    ≡ list_all (leads_to_part (object (members_view l.claims.entries))) l.hide

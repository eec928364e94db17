use Rattle.std.proofs.Common.{◌≡◌, ◌++◌, drop, map}
use Rattle.serde_json.specs.View.{view}
use Rattle.option_texts.specs.Addresses.{step_data}
use Rattle.option_texts.proofs.addresses.address_value.Given as goal

abbrev pub invariant-loop-step : goal.invariant-loop-step
invariant-loop-step l =
    map view l.elements.items ++ map step_data (drop l.step-index l.steps) ≡ map step_data l.steps

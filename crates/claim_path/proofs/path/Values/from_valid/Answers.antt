use Rattle.std.proofs.Common.{filter_map, sym, ap, ◌∙◌, subst}
use Rattle.serde_json.specs.View.{view}
use Rattle.claim_path.specs.Path.{IsValues}
use Rattle.claim_path.specs.Read.{scalar_of}
use Rattle.claim_path.proofs.Valid.{valid_values}
use Rattle.claim_path.proofs.path.Values.from_valid.Goals as goal

pub invariant_of-result : goal.invariant_of-result
invariant_of-result c =
    subst IsValues (sym (c.in_ok-members.ensures ∙ ap (filter_map scalar_of) c.elements.ensures))
    (valid_values (view c.args.value.now) c.requires)

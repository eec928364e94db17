use Rattle.std.proofs.Common.{filter_map, sym, ap, ◌∙◌, subst}
use Rattle.serde_json.specs.View.{view}
use Rattle.claim_path.specs.Path.{IsPath}
use Rattle.claim_path.specs.Read.{step_of}
use Rattle.claim_path.proofs.Valid.{valid_path}
use Rattle.claim_path.proofs.path.Path.from_valid.Goals as goal

pub invariant_of-result : goal.invariant_of-result
invariant_of-result c =
    subst IsPath (sym (c.in_ok-steps.ensures ∙ ap (filter_map step_of) c.elements.ensures))
    (valid_path (view c.args.value.now) c.requires)

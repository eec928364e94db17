use Rattle.std.proofs.Common.{map, ap, ◌∙◌}
use Rattle.claim_tree.specs.Tree.{is_claim}
use Rattle.mdoc_items.specs.Parts.{said_namespace}
use Rattle.mdoc_items.proofs.ValueClaims.{document_claim}
use Rattle.mdoc_view.proofs.reader.build.Goals as goal

pub invariant_of-result : goal.invariant_of-result
invariant_of-result c =
    record {
      claim = ap is_claim c.in_ok-root.ensures
          ∙ document_claim (map said_namespace c.args.namespaces.now);
    }

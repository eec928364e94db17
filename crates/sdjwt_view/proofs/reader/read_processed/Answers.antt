use Rattle.std.proofs.Common.{map, ap, ◌∙◌, subst}
use Rattle.serde_json.specs.View.{view}
use Rattle.claim_tree.specs.Tree.{is_claim}
use Rattle.claim_tree.specs.Plain.{plain}
use Rattle.owned_tree.specs.Owned.{named_of}
use Rattle.sdjwt_disclosures.specs.Processed.{IsProcessed}
use Rattle.sdjwt_digests.specs.Disclosure.{said}
use Rattle.sdjwt_view.proofs.ReadSteps.{spelled_claim}
use Rattle.sdjwt_view.proofs.reader.read_processed.Goals as goal

pub read_facts-requires : goal.read_facts-requires
read_facts-requires c =
    let processed =
    subst (IsProcessed (view c.payload.result.now) (map said c.deref.result.now)) c.in-Tree.is
    c.in_ok-members.ensures in
    spelled_claim (view c.payload.result.now) c.deref.result.now (map named_of c.in-Tree.members.items)
    (ap (λ d. is_claim (plain d)) c.payload.ensures ∙ c.requires) processed.1

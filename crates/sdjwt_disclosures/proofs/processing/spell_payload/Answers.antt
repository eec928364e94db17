use Rattle.std.proofs.Common.{◌≡◌, true, option_map, option_and_then, map, ap, subst}
use Rattle.std.specs.Prelude.{IfOk}
use Rattle.sdjwt_digests.specs.code.Disclosures.{all_said}
use Rattle.owned_tree.specs.Owned.{named_of}
use Rattle.sdjwt_disclosures.specs.DisclosedTree.{spelled, spelled_members, spelled_payload}
use Rattle.sdjwt_disclosures.proofs.processing.spell_payload.Goals as goal

pub returns-in-Some : goal.returns-in-Some
unfolding spelled_payload
returns-in-Some c =
    subst (λ o. IfOk c.spell_members.result
    (λ r. option_map (λ v. map named_of v.items) r ≡ option_and_then
    (λ ms. spelled_members true (spelled 63 (all_said c.args.disclosures.now))
    (all_said c.args.disclosures.now) ms) o)) c.in-Some.ensures c.spell_members.ensures

pub returns-in-None : goal.returns-in-None
unfolding spelled_payload
returns-in-None c =
    ap (option_and_then
    (λ ms. spelled_members true (spelled 63 (all_said c.args.disclosures.now))
    (all_said c.args.disclosures.now) ms)) c.in-None.ensures

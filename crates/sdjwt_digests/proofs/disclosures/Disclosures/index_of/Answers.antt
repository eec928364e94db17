use Rattle.std.proofs.Common.{◌≡◌, Some, None, map, sym, ap, ◌∙◌, arith}
use Rattle.std.proofs.lemmas.Grind.{common_steps}
use Rattle.sdjwt_digests.specs.code.Indexes.{own_digest, first_index}
use Rattle.sdjwt_digests.proofs.FirstIndexes.{digests_said}
use Rattle.sdjwt_digests.proofs.disclosures.Disclosures.index_of.Goals as goal

pub returns-in-Some : goal.returns-in-Some
returns-in-Some c =
    let at : first_index c.args.digest.now
    (map own_digest c.args.self.now.list.now) ≡ Some c.in-Some.index.now =
    grind (arith, common_steps, c.in-Some.ensures.value, c.args.self.now.indexed c.args.digest.now) in
    sym (ap (first_index c.args.digest.now) (digests_said c.args.self.now.list.now) ∙ at)

pub returns-in-None : goal.returns-in-None
returns-in-None c =
    let at : first_index c.args.digest.now (map own_digest c.args.self.now.list.now) ≡ None =
    grind (arith, common_steps, c.in-None.ensures.value, c.args.self.now.indexed c.args.digest.now) in
    sym (ap (first_index c.args.digest.now) (digests_said c.args.self.now.list.now) ∙ at)

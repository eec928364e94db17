use Rattle.std.proofs.Common.{◌≡◌, Some, None, option_map, option_and_then, map, sym, ap, ◌∙◌, arith}
use Rattle.std.proofs.Common.{slice_get}
use Rattle.std.proofs.lemmas.Grind.{common_steps}
use Rattle.sdjwt_digests.specs.code.Indexes.{own_digest, first_index}
use Rattle.sdjwt_digests.specs.Disclosure.{said}
use Rattle.sdjwt_digests.proofs.FirstIndexes.{found-first_index, got}
use Rattle.sdjwt_digests.proofs.disclosures.Disclosures.find.Goals as goal

pub returns-in-Some : goal.returns-in-Some
returns-in-Some c =
    let at : first_index c.args.digest.now
    (map own_digest c.args.self.now.list.now) ≡ Some c.in-Some.index.now =
    grind (arith, common_steps, c.in-Some.ensures.value, c.args.self.now.indexed c.args.digest.now) in
    got c.get-in-Some.result c.args.self.now.list.now c.in-Some.index.now c.get-in-Some.ensures.lookup.0
    c.get-in-Some.ensures.lookup.1
    ∙ ap (option_and_then (λ i. option_map said (slice_get c.args.self.now.list.now i))) (sym at)
    ∙ found-first_index c.args.digest.now c.args.self.now.list.now

pub returns-in-None : goal.returns-in-None
returns-in-None c =
    let at : first_index c.args.digest.now (map own_digest c.args.self.now.list.now) ≡ None =
    grind (arith, common_steps, c.in-None.ensures.value, c.args.self.now.indexed c.args.digest.now) in
    ap (option_and_then (λ i. option_map said (slice_get c.args.self.now.list.now i))) (sym at)
    ∙ found-first_index c.args.digest.now c.args.self.now.list.now

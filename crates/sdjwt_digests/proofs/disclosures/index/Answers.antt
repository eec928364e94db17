use Rattle.std.proofs.Common.{◌≡◌, ◌+◌, ◌<◌, ap₂, true, false, not, ◌&&◌, take, drop, length, map, Some, None}
use Rattle.std.proofs.Common.{[], ◌∷◌, ◌++◌, sym, ap, ◌∙◌, arith}
use Rattle.std.proofs.lemmas.Grind.{common_steps}
use Rattle.std.proofs.lemmas.Map.Text.{btree_map_updates_str}
use Rattle.std.specs.Option.{is_some}
use Rattle.base_forms.specs.Texts.{differ, is_among}
use Rattle.sdjwt_digests.specs.code.Indexes.{own_digest, first_index, index_at}
use Rattle.base_forms.proofs.Differing.{differ_push, differ_front, clashing}
use Rattle.sdjwt_digests.proofs.FirstIndexes.{is_some-first_index, none_there, digests_next, digests_rest}
use Rattle.sdjwt_digests.proofs.FirstIndexes.{index_step, length_front}
use Rattle.sdjwt_digests.proofs.disclosures.index.Goals as goal

pub returns-then-is_some-clause-differ : goal.returns-then-is_some-clause-differ
returns-then-is_some-clause-differ c =
    let key : c.digest.result.now ≡ own_digest c.index-list-i.result = c.digest.ensures in
    let there : is_some (index_at c.loop-i.order c.digest.result.now) ≡ true =
    grind (arith, common_steps, c.in_ok-insert.ensures.old, c.is_some.ensures, c.if-is_some.true) in
    let within : c.loop-i.i < length c.args.list.now =
    omega (arith, c.loop-i-test.true) in
    let next = digests_next c.args.list.now c.loop-i.i c.index-list-i.result within c.index-list-i.is in
    let among : is_among (own_digest c.index-list-i.result)
    (map own_digest (take c.loop-i.i c.args.list.now)) ≡ true =
    sym (is_some-first_index (own_digest c.index-list-i.result)
    (map own_digest (take c.loop-i.i c.args.list.now)))
    ∙ ap is_some (sym (c.loop-i.invariant.processed (own_digest c.index-list-i.result)))
    ∙ ap (λ x. is_some (index_at c.loop-i.order x)) (sym key) ∙ there in
    let clash : differ (map own_digest (take (c.loop-i.i + 1) c.args.list.now)) ≡ false =
    ap differ next ∙ differ_push (map own_digest (take c.loop-i.i c.args.list.now))
    (own_digest c.index-list-i.result)
    ∙ clashing (differ (map own_digest (take c.loop-i.i c.args.list.now))) _ among in
    sym (ap differ (digests_rest c.args.list.now (c.loop-i.i + 1))
    ∙ differ_front (map own_digest (take (c.loop-i.i + 1) c.args.list.now))
    (map own_digest (drop (c.loop-i.i + 1) c.args.list.now)) clash)

pub loop-i-preserved : goal.loop-i-preserved
loop-i-preserved c =
    let key : c.digest.result.now ≡ own_digest c.index-list-i.result = c.digest.ensures in
    let none : is_some (index_at c.loop-i.order c.digest.result.now) ≡ false =
    grind (arith, common_steps, c.in_ok-insert.ensures.old, c.is_some.ensures, c.if-is_some.false) in
    let step = btree_map_updates_str c.digest.result.now c.loop-i.order c.insert.new.self
    (Some c.loop-i.i) c.in_ok-insert.ensures.updates in
    let within : c.loop-i.i < length c.args.list.now =
    omega (arith, c.loop-i-test.true) in
    let next = digests_next c.args.list.now c.loop-i.i c.index-list-i.result within c.index-list-i.is in
    let new : first_index c.digest.result.now (map own_digest (take c.loop-i.i c.args.list.now)) ≡ None =
    sym (c.loop-i.invariant.processed c.digest.result.now)
    ∙ none_there (index_at c.loop-i.order c.digest.result.now) none in
    let next_key : map own_digest (take (c.loop-i.i + 1) c.args.list.now)
    ≡ map own_digest (take c.loop-i.i c.args.list.now) ++ c.digest.result.now ∷ [] =
    next ∙ ap (λ y. map own_digest (take c.loop-i.i c.args.list.now) ++ y ∷ []) (sym key) in
    record {
      processed = λ x.
          step x ∙ index_step c.loop-i.order c.loop-i.i c.digest.result.now
          (map own_digest (take c.loop-i.i c.args.list.now)) x
          (c.loop-i.invariant.processed x) (length_front c.args.list.now c.loop-i.i within) new
          ∙ ap (first_index x) (sym next_key);
      apart = ap differ next_key ∙ differ_push (map own_digest (take c.loop-i.i c.args.list.now))
          c.digest.result.now
          ∙ ap₂ (λ a b. a && not b) c.loop-i.invariant.apart
          (sym (is_some-first_index c.digest.result.now
          (map own_digest (take c.loop-i.i c.args.list.now))) ∙ ap is_some new);
    }

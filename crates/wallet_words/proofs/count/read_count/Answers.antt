use Rattle.std.proofs.Common.{◌≡◌, ◌∙◌, decimal, arith, ap, sym}
use Rattle.std.proofs.lemmas.Slice.Eq.{bytes_eq-Decides}
use Rattle.wallet_words.proofs.Counts.{counted, uncounted, parsed}
use Rattle.wallet_words.proofs.count.read_count.Goals as goal

pub returns-in_default : goal.returns-in_default
returns-in_default c = sym (uncounted c.args.text.now (λ n h.
    let found = parsed n c.args.text.now c.parse.result h c.parse.ensures.value.0 in
    let failed = c.in_default.is in
    cc (found, failed)))

pub returns-then-eq : goal.returns-then-eq
returns-then-eq c =
    let same : c.format.result.now ≡ c.args.text.now =
    (bytes_eq-Decides c.format.result.now c.args.text.now).0 (sym c.eq.ensures ∙ c.if-eq.true) in
    sym (counted c.in-Ok.count c.args.text.now
    (c.if-count-ge-LEAST.true, c.if-count-le-MOST.true, sym same ∙ c.format.ensures.text))

pub returns-else-count-ge-LEAST : goal.returns-else-count-ge-LEAST
returns-else-count-ge-LEAST c = sym (uncounted c.args.text.now (λ n h.
    let found = parsed n c.args.text.now c.parse.result h c.parse.ensures.value.0 in
    let read = c.in-Ok.is in
    let same : c.in-Ok.count ≡ n = cc (found, read) in
    elim c.else-count-ge-LEAST.branch [
      | goal.else-count-ge-LEAST-via-then-count-ge-LEAST+then-count-le-MOST+else-eq w ↦
          let written = (bytes_eq-Decides w.format.result.now c.args.text.now).1
          (w.format.ensures.text ∙ ap decimal same ∙ sym h.2) in
          let test = w.eq.ensures in
          let other = w.if-eq.false in
          cc (written, test, other)
      | goal.else-count-ge-LEAST-via-then-count-ge-LEAST+else-count-le-MOST w ↦
          absurd (omega (arith, h.1, same, w.if-count-le-MOST.false))
      | goal.else-count-ge-LEAST-via-else-count-ge-LEAST w ↦
          absurd (omega (arith, h.0, same, w.if-count-ge-LEAST.false))
    ]))

use Rattle.std.proofs.Common.{◌≡◌, ◌+◌, true, ◌↔◌, subst, sym, ◌∙◌, arith}
use Rattle.dcql_query.specs.Query.{credential_set_at}
use Rattle.answered_sets.specs.Table.{is_in}
use Rattle.answered_sets.specs.code.Steps.{Goes}
use Rattle.answered_sets.proofs.Unions.{none_in, goes_nowhere, goes_past, goes_on}
use Rattle.answered_sets.proofs.table.joined.Goals as goal
use Rattle.answered_sets.proofs.table.joined.Goals.{then-is_in, else-is_in}

pub loop-place-init : goal.loop-place-init
loop-place-init c = λ a low. (
  (λ h. absurd (let e = none_in c.none-next.result c.none-next.ensures a in cc (e, h))),
  λ h. absurd (goes_nowhere c.args.reached.now (credential_set_at c.args.query.now c.args.set) a h),
)

pub loop-place-preserved : goal.loop-place-preserved
loop-place-preserved c = λ a low.
    let n = c.loop-place.place in
    let before = c.args.reached.now in
    let set = credential_set_at c.args.query.now c.args.set in
    elim c.if-is_in.branch [
      | then-is_in w ↦
          subst (λ words. (is_in words a ≡ true) ↔ Goes before set (n + 1) a) (sym w.next-is)
          (goes_on before set n a (is_in c.loop-place.next a) (is_in w.put_choices.new.self a)
          (sym c.is_in.ensures ∙ w.if-is_in.true) (w.put_choices.ensures a low)
          (c.loop-place.invariant a low))
      | else-is_in w ↦
          subst (λ words. (is_in words a ≡ true) ↔ Goes before set (n + 1) a) (sym w.next-is)
          (let past = goes_past before set n a (sym c.is_in.ensures ∙ w.if-is_in.false) in
          let inv = c.loop-place.invariant a low in
          ((λ h. past.0 (inv.0 h)), λ g. inv.1 (past.1 g)))
    ]

pub returns : goal.returns
returns c = λ a low.
    let end : c.loop-place.place ≡ 65536 = omega arith in
    subst (λ n. (is_in c.loop-place.next a ≡ true)
    ↔ Goes c.args.reached.now (credential_set_at c.args.query.now c.args.set) n a) end
    (c.loop-place.invariant a low)

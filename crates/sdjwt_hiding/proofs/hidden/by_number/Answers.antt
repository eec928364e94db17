use Rattle.std.proofs.Common.{rules, map, nat_cmp, ap, ◌∙◌}
use Rattle.std.specs.Cmp.{nat_cmp_total}
use Rattle.std.specs.Ordering.{is_lt}
use Rattle.std.proofs.lemmas.List.Sorted.{ranks_by, answers_always}
use Rattle.sdjwt_hiding.specs.Issued.{made_of}
use Rattle.sdjwt_hiding.proofs.InOrder.{sorted_is, ordered_map}
use Rattle.sdjwt_hiding.proofs.hidden.by_number.Goals as goal

pub returns : goal.returns
returns c =
    let before = c.args.made.items in
    let after = c.sort_by_key.new.self.items in
    ap (map made_of)
    (sorted_is (λ a b. is_lt (nat_cmp a.number b.number)) (ranks_by nat_cmp_total (λ d. d.number)) before
    after
    (c.in_ok-sort_by_key.ensures.sorted (λ d. d.number) (answers_always _ _ _ (λ f a r g h. search rules)))
    (c.sort_by_key.ensures.stable (λ d. d.number) (answers_always _ _ _ (λ f a r g h. search rules))))
    ∙ ordered_map made_of (λ p q. is_lt (nat_cmp p.0 q.0)) before

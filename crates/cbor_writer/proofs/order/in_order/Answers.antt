use Rattle.std.proofs.Common.{rules, ℕ, List, Bor, IsPermutation, subst}
use Rattle.std.specs.Ordering.{nat_cmp, is_lt}
use Rattle.std.specs.Cmp.Lexicographic.{slice_cmp}
use Rattle.std.proofs.lemmas.List.Sorted.{IsPermutation-map, answers_always}
use Rattle.cbor_writer.specs.Order.{Pair, lent}
use Rattle.cbor_writer.proofs.Ordered.{sorted-map}
use Rattle.cbor_writer.proofs.order.in_order.Goals as goal

pub returns : goal.returns
returns c =
    let sorted = c.sort_unstable_by_key.new.self.items in
    let same : IsPermutation (lent c.in_ok-order.order.items) (lent sorted) =
    IsPermutation-map
    (λ (p : Bor (List ℕ) × Bor (List ℕ)). (p.0.now, p.1.now)) _ _
    c.sort_unstable_by_key.ensures.permutation in (
      subst (λ (x : List Pair). IsPermutation x (lent sorted)) c.in_ok-order.ensures same,
      sorted-map (λ (p : Bor (List ℕ) × Bor (List ℕ)). (p.0.now, p.1.now))
          (λ (a b : Pair). is_lt (slice_cmp nat_cmp a.0 b.0)) sorted
          (c.sort_unstable_by_key.ensures.sorted (λ p. p.0)
          (answers_always _ _ _ (λ f a r g h. search rules))),
    )

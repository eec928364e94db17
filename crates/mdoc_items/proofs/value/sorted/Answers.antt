use Rattle.std.proofs.Common.{rules}
use Rattle.std.specs.Ordering.{nat_cmp, is_lt}
use Rattle.std.specs.Cmp.Lexicographic.{slice_cmp}
use Rattle.std.proofs.lemmas.List.Sorted.{IsPermutation-map, answers_always}
use Rattle.cbor_writer.proofs.Ordered.{sorted-map}
use Rattle.mdoc_items.specs.code.Valued.{value_in}
use Rattle.mdoc_items.proofs.value.sorted.Goals as goal

pub returns : goal.returns
returns c =
    let sorted = c.sort_unstable_by_key.new.self.items in (
      IsPermutation-map value_in _ _ c.sort_unstable_by_key.ensures.permutation,
      sorted-map value_in (λ a b. is_lt (slice_cmp nat_cmp a.0 b.0)) sorted
          (c.sort_unstable_by_key.ensures.sorted (λ p. p.name)
          (answers_always _ _ _ (λ f a r g h. search rules))),
    )

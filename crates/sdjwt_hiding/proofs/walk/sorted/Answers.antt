use Rattle.std.proofs.Common.{map, string_bytes, sym, ap, ◌∙◌}
use Rattle.std.specs.Ordering.{is_lt}
use Rattle.std.specs.String.{string_cmp, string_cmp_total}
use Rattle.std.proofs.lemmas.List.Sorted.{ranks_by}
use Rattle.sdjwt_hiding.proofs.InOrder.{sorted_is, ordered_map}
use Rattle.sdjwt_hiding.proofs.Sorts.{text_lt, sorted_texts}
use Rattle.sdjwt_hiding.proofs.walk.sorted.Goals as goal

pub returns : goal.returns
returns c =
    let before = c.args.digests.items in
    let after = c.sort.new.self.items in
    ap (map string_bytes)
    (sorted_is (λ a b. is_lt (string_cmp a b)) (ranks_by string_cmp_total (λ x. x)) before after
    c.in_ok-sort.ensures.sorted c.sort.ensures.stable)
    ∙ ordered_map string_bytes text_lt before ∙ sym (sorted_texts (map string_bytes before))

use Rattle.std.proofs.Common.{nat_cmp, string_bytes, rules}
use Rattle.std.specs.Cmp.Lexicographic.{slice_cmp}
use Rattle.std.proofs.lemmas.Fn.{always_returns_same}
use Rattle.owned_tree.proofs.Searches.{searched}
use Rattle.owned_tree.proofs.members.place_of.Goals as goal

pub returns-clause-place : goal.returns-clause-place
returns-clause-place c =
    let facts = c.binary_search_by.ensures in
    let by_name = facts.position (λ m. slice_cmp nat_cmp (string_bytes m.name) c.args.name.now)
    (always_returns_same _ _ _ (λ a r f called. (search rules, search rules))) in
    searched c.args.name.now c.args.members.now c.binary_search_by.result c.requires facts.bound by_name

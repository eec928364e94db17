use Rattle.std.proofs.Common.{◌≡◌, ◌++◌, map, drop}
use Rattle.option_list.specs.code.Entries.{entry_in, lists_named}
use Rattle.option_list.proofs.read.answer_of.Given as goal

abbrev pub invariant-loop-query : goal.invariant-loop-query
invariant-loop-query l =
    map (λ ps. ps.items) l.lists.items ++ lists_named (drop l.query-index l.queries) (map entry_in l.entries)
    ≡ lists_named l.queries (map entry_in l.entries)

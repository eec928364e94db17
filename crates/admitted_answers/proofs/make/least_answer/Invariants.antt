use Rattle.std.proofs.Common.{◌≡◌, ◌++◌, ◌-◌, map}
use Rattle.admitted_answers.specs.code.Search.{lists_of}
use Rattle.admitted_answers.proofs.make.least_answer.Given as goal

abbrev pub invariant-loop-query : goal.invariant-loop-query
invariant-loop-query l =
    map (λ ps. ps.items) l.lists.items ++ lists_of l.fits l.query (l.count - l.query) l.rest
    ≡ lists_of l.fits 0 l.count l.set

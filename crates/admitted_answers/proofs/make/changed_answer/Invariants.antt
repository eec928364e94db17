use Rattle.std.proofs.Common.{◌≡◌, ◌++◌, map, drop}
use Rattle.admitted_answers.specs.code.Search.{parts_from}
use Rattle.admitted_answers.proofs.make.changed_answer.Given as goal

abbrev pub invariant-loop-query : goal.invariant-loop-query
invariant-loop-query l =
    map (λ ps. ps.items) l.parts.items
    ++ parts_from l.fits l.query l.spot (map (λ ps. ps.items) (drop l.query l.lists))
    ≡ parts_from l.fits 0 l.spot (map (λ ps. ps.items) l.lists)

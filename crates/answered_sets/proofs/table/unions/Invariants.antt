use Rattle.std.proofs.Common.{ℕ, ◌<◌, ◌^◌, drop, ◌↔◌}
use Rattle.dcql_query.specs.Query.{sets_in}
use Rattle.answered_sets.specs.Answered.{IsUnion}
use Rattle.answered_sets.specs.code.Steps.{Reaches}
use Rattle.answered_sets.proofs.table.unions.Given as goal

abbrev pub invariant-loop-set : goal.invariant-loop-set
invariant-loop-set l = (a : ℕ) → a < 2 ^ 16
    → Reaches l.reached (drop l.set (sets_in l.query)) a ↔ IsUnion (sets_in l.query) a

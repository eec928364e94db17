use Rattle.std.proofs.Common.{◌≡◌, ℕ, ◌<◌, ◌^◌, true, drop, ◌⊎◌, ◌↔◌}
use Rattle.dcql_query.specs.Query.{credential_set_at}
use Rattle.answered_sets.specs.Table.{is_in}
use Rattle.answered_sets.specs.code.Steps.{Joins}
use Rattle.answered_sets.proofs.table.AnsweredSets.put_joined.Given as goal

abbrev pub invariant-loop-option : goal.invariant-loop-option
invariant-loop-option l = (a : ℕ) → a < 2 ^ 16
    → ((is_in l.self a ≡ true) ⊎ Joins (drop l.option (credential_set_at l.query l.set).options) l.before a)
    ↔ ((is_in l.initial.self a ≡ true) ⊎ Joins (credential_set_at l.query l.set).options l.before a)

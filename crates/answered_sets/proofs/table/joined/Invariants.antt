use Rattle.std.proofs.Common.{◌≡◌, ℕ, ◌<◌, ◌^◌, true, ◌↔◌}
use Rattle.dcql_query.specs.Query.{credential_set_at}
use Rattle.answered_sets.specs.Table.{is_in}
use Rattle.answered_sets.specs.code.Steps.{Goes}
use Rattle.answered_sets.proofs.table.joined.Given as goal

abbrev pub invariant-loop-place : goal.invariant-loop-place
invariant-loop-place l = (a : ℕ) → a < 2 ^ 16
    → (is_in l.next a ≡ true) ↔ Goes l.reached (credential_set_at l.query l.set) l.place a

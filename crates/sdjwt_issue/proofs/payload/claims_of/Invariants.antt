use Rattle.std.proofs.Common.{◌≡◌}
use Rattle.serde_json.specs.View.{members_view}
use Rattle.serde_json.specs.Data.{no_members}
use Rattle.sdjwt_hiding.proofs.PutAgain.{put_all}
use Rattle.sdjwt_issue.proofs.payload.claims_of.Given as goal

abbrev pub invariant-loop-name : goal.invariant-loop-name
invariant-loop-name l =
    (goal.iterator-loop-name).can_next l.name-iterator × (goal.iterator-loop-name).is_finite l.name-iterator
    × (put_all (members_view l.name-iterator) (members_view l.members.entries)
    ≡ put_all (members_view l.claims.entries) no_members)

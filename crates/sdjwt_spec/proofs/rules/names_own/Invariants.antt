use Rattle.std.proofs.Common.{◌≡◌}
use Rattle.std.specs.List.{list_any}
use Rattle.serde_json.specs.View.{members_view}
use Rattle.base_forms.specs.Texts.{is_among}
use Rattle.claim_tree.specs.Tree.{member_names}
use Rattle.claim_tree.specs.Plain.{plain_members}
use Rattle.sdjwt_disclosures.specs.MemberNames.{plain_only}
use Rattle.sdjwt_spec.proofs.rules.names_own.Given as goal

abbrev pub invariant-loop-name : goal.invariant-loop-name
invariant-loop-name l =
    (goal.iterator-loop-name).can_next l.name-iterator
    × (goal.iterator-loop-name).is_finite l.name-iterator
    × (list_any (λ k. is_among k plain_only) (member_names (plain_members (members_view l.name-iterator)))
    ≡ list_any (λ k. is_among k plain_only) (member_names (plain_members (members_view l.claims.entries))))

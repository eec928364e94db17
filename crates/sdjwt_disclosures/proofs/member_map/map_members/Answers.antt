use Rattle.std.proofs.Common.{◌≡◌, [], ◌∷◌, ◌++◌, map, sym, ap, ◌∙◌, append_assoc}
use Rattle.std.specs.Vec.Iter.{into_iter_items}
use Rattle.claim_tree.specs.Tree.{ascend}
use Rattle.owned_tree.specs.Owned.{named_of}
use Rattle.claim_tree.specs.Ascending.{names_of}
use Rattle.sdjwt_disclosures.specs.code.MemberMap.{members_in}
use Rattle.sdjwt_disclosures.proofs.MemberMaps.{put_last}
use Rattle.sdjwt_disclosures.proofs.member_map.map_members.Goals as goal

pub loop-member-preserved : goal.loop-member-preserved
loop-member-preserved c =
    let step : into_iter_items c.loop-member.member-iterator ≡ c.in-Some.member
    ∷ into_iter_items c.next.new.self = c.in-Some.ensures.steps.0 in
    let whole : members_in c.loop-member.by_name.entries ++ named_of c.in-Some.member ∷ map named_of
    (into_iter_items c.next.new.self) ≡ map named_of c.args.members.items =
    ap (λ ms. members_in c.loop-member.by_name.entries ++ map named_of ms) (sym step)
    ∙ c.loop-member.invariant.3 in
    let up = ap (λ ns. ascend (names_of ns)) whole ∙ c.requires in
    let new : members_in c.put.new.by_name.entries ≡ members_in c.loop-member.by_name.entries
    ++ named_of c.in-Some.member ∷ [] =
    c.in_ok-put.ensures.put ∙ put_last (members_in c.loop-member.by_name.entries) (named_of c.in-Some.member)
    (map named_of (into_iter_items c.next.new.self)) up in (
      tt,
      tt,
      c.put.ensures.order,
      ap (λ ms. ms ++ map named_of (into_iter_items c.next.new.self)) new
          ∙ append_assoc (members_in c.loop-member.by_name.entries) (named_of c.in-Some.member ∷ [])
          (map named_of (into_iter_items c.next.new.self)) ∙ whole,
    )

use Rattle.std.proofs.Common.{◌≡◌, true, false, string_bytes, nat_cmp, sym, ap, ◌∙◌}
use Rattle.std.specs.Option.{is_some}
use Rattle.std.specs.BTreeMap.{get_by}
use Rattle.std.specs.Cmp.Lexicographic.{slice_cmp}
use Rattle.claim_tree.specs.Tree.{ascend}
use Rattle.owned_tree.specs.Owned.{tree_of, named_of}
use Rattle.claim_tree.specs.Ascending.{names_of}
use Rattle.sdjwt_disclosures.proofs.PutMembers.{ascend-put}
use Rattle.sdjwt_disclosures.specs.code.MemberMap.{members_in}
use Rattle.sdjwt_disclosures.proofs.MemberMaps.{there, present, absent}
use Rattle.sdjwt_disclosures.proofs.member_map.put.Goals as goal

pub returns-then-contains_key-clause-put : goal.returns-then-contains_key-clause-put
returns-then-contains_key-clause-put c =
    let here : there c.args.member.name c.args.by_name.now.entries ≡ true =
    ap (λ x. is_some (get_by (λ k. slice_cmp nat_cmp x (string_bytes k)) c.args.by_name.now))
    (sym c.as_str.ensures.value) ∙ sym c.contains_key.ensures ∙ c.if-contains_key.true in
    sym (present c.args.by_name.now.entries c.args.member.name c.args.member.held
    (tree_of c.args.member.tree) c.requires here)

pub returns-clause-put : goal.returns-clause-put
returns-clause-put c =
    let none : there c.args.member.name c.args.by_name.now.entries ≡ false =
    ap (λ x. is_some (get_by (λ k. slice_cmp nat_cmp x (string_bytes k)) c.args.by_name.now))
    (sym c.as_str.ensures.value) ∙ sym c.contains_key.ensures ∙ c.if-contains_key.false in
    ap members_in c.in_ok-insert.ensures.entries ∙ absent c.args.by_name.now.entries c.args.member.name _ none

pub returns-clause-order : goal.returns-clause-order
returns-clause-order c =
    let none : there c.args.member.name c.args.by_name.now.entries ≡ false =
    ap (λ x. is_some (get_by (λ k. slice_cmp nat_cmp x (string_bytes k)) c.args.by_name.now))
    (sym c.as_str.ensures.value) ∙ sym c.contains_key.ensures ∙ c.if-contains_key.false in
    ap (λ ns. ascend (names_of ns)) (ap members_in c.in_ok-insert.ensures.entries
    ∙ absent c.args.by_name.now.entries c.args.member.name _ none)
    ∙ ascend-put (named_of c.args.member) (members_in c.args.by_name.now.entries) c.requires

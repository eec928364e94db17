use Rattle.std.proofs.Common.{map, option_map, sym, ap, ◌∙◌}
use Rattle.std.proofs.lemmas.Option.{slice_get-map, slice_get-get_or}
use Rattle.owned_tree.specs.Owned.{named_of}
use Rattle.owned_tree.proofs.Searches.{member_at-found, member_at-absent}
use Rattle.owned_tree.proofs.owned_node.member_named.Goals as goal

pub returns-in-Ok : goal.returns-in-Ok
returns-in-Ok c =
    let ms = c.args.members.now in
    let i = c.in-Ok.place in
    let here = slice_get-map named_of ms i
    ∙ ap (option_map named_of)
    (slice_get-get_or ms i c.index-members-place.result c.in-Ok.ensures.within) in
    sym (member_at-found c.args.name.now (map named_of ms) i c.requires c.in-Ok.ensures.place
    ∙ ap (option_map (λ l. l.2)) here)

pub returns-in-Err : goal.returns-in-Err
returns-in-Err c =
    sym (member_at-absent c.args.name.now
    (map named_of c.args.members.now) c.in-Err.field-0 c.in-Err.ensures.place.1 c.in-Err.ensures.place.2)

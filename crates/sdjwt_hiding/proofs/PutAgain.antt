-- Members that are put in one after another.
use Rattle.std.proofs.Common.{◌≡◌, Bool, true, ◌&&◌, Greater, refl, ap, ◌∙◌, List}
use Rattle.std.specs.List.{list_all}
use Rattle.std.specs.Ordering.{nat_cmp, ordering_reverse}
use Rattle.std.specs.Cmp.Lexicographic.{slice_cmp}
use Rattle.std.proofs.lemmas.Bool.{and_parts, and_from}
use Rattle.std.proofs.lemmas.Cmp.{nat_list_cmp_total}
use Rattle.serde_json.specs.Data.{Data, Members, no_members, member, put}
use Rattle.claim_tree.specs.Tree.{Name, member_names, ascend}
use Rattle.claim_tree.specs.Plain.{plain_members as plain_fields}
use Rattle.claim_tree.specs.Ascending.{below}
use Rattle.claim_tree.proofs.Ascending.{is_less}

-- the members with others at the end
abbrev append : Members → Members → Members
append no_members ms = ms
append (member k d more) ms = member k d (append more ms)

abbrev names : Members → List Name
names ms = member_names (plain_fields ms)

-- each of the names is below the key
abbrev are_below : Name → Members → Bool
are_below k ms = list_all (λ l. below l k) (names ms)

put_last : (k : Name) (d : Data) (ms : Members) → are_below k ms ≡ true
    → put k d ms ≡ append ms (member k d no_members)
put_last k d no_members h = refl
put_last k d (member l e ms) h =
    let both = and_parts (below l k) (are_below k ms) h in
    let up : slice_cmp nat_cmp k l ≡ Greater = nat_list_cmp_total.antisymm k l
    ∙ ap ordering_reverse (is_less (slice_cmp nat_cmp l k) both.0) in
    rw up (ap (member l e) (put_last k d ms both.1))

append_more : (before : Members) (k : Name) (d : Data) (ms : Members)
    → append (append before (member k d no_members)) ms ≡ append before (member k d ms)
append_more no_members k d ms = refl
append_more (member l e before) k d ms = ap (member l e) (append_more before k d ms)

append_none : (ms : Members) → ms ≡ append ms no_members
append_none no_members = refl
append_none (member k d ms) = ap (member k d) (append_none ms)

-- each of the names is below all of the others
abbrev precede : Members → Members → Bool
precede no_members ms = true
precede (member l e before) ms = list_all (below l) (names ms) && precede before ms

precede_first : (before : Members) (k : Name) (d : Data) (ms : Members)
    → precede before (member k d ms) ≡ true → are_below k before ≡ true
precede_first no_members k d ms h = refl
precede_first (member l e before) k d ms h =
    let both = and_parts (below l k && list_all (below l) (names ms)) (precede before (member k d ms)) h in
    and_from (below l k) (are_below k before) (and_parts (below l k) (list_all (below l) (names ms)) both.0).0
    (precede_first before k d ms both.1)

precede_rest : (before : Members) (k : Name) (d : Data) (ms : Members) → precede before (member k d ms) ≡ true
    → list_all (below k) (names ms) ≡ true → precede (append before (member k d no_members)) ms ≡ true
precede_rest no_members k d ms h first = and_from (list_all (below k) (names ms)) true first refl
precede_rest (member l e before) k d ms h first =
    let both = and_parts (below l k && list_all (below l) (names ms)) (precede before (member k d ms)) h in
    and_from (list_all (below l) (names ms)) (precede (append before (member k d no_members)) ms)
    (and_parts (below l k) (list_all (below l) (names ms)) both.0).1
    (precede_rest before k d ms both.1 first)

-- members put in one after another
abbrev pub put_all : Members → Members → Members
put_all no_members ms = ms
put_all (member k d more) ms = put_all more (put k d ms)

put_after : (ms before : Members) → ascend (names ms) ≡ true → precede before ms ≡ true
    → put_all ms before ≡ append before ms
put_after no_members before up order = append_none before
put_after (member k d ms) before up order =
    let c = and_parts (list_all (below k) (names ms)) (ascend (names ms)) up in
    ap (put_all ms) (put_last k d before (precede_first before k d ms order))
    ∙ put_after ms (append before (member k d no_members)) c.1 (precede_rest before k d ms order c.0)
    ∙ append_more before k d ms

-- members that ascend are had again by putting them in
pub put_again : (ms : Members) → ascend (names ms) ≡ true → put_all ms no_members ≡ ms
put_again ms up = put_after ms no_members up refl

use Rattle.std.proofs.Common.{◌≡◌, length, arith, refl, sym, ◌∙◌}
use Rattle.claim_tree.specs.Tree.{Tree, Text, Whole, Truth, Null, Bytes, Other, ListOf, RecordOf, parts}
use Rattle.claim_tree.specs.Tree.{names, shape_of}
use Rattle.claim_tree.specs.declared.shape.Shape.TheVariants.{Record}
use Rattle.claim_tree.proofs.Trees.{length-marks, length-member_names}
use Rattle.formats_tests.proofs.outlines.+write_tree.Goals as goal

-- each part of a record has its name
length-names : (t : Tree) → shape_of t ≡ Record → length (names t) ≡ length (parts t)
length-names (RecordOf ms) e = length-member_names ms
length-names (ListOf l es) e = cc
length-names (Text s) e = cc
length-names (Whole z) e = cc
length-names (Truth b) e = cc
length-names Null e = cc
length-names (Bytes b) e = cc
length-names Other e = cc

pub held_at-requires : goal.held_at-requires
held_at-requires g t c =
    omega (arith, c.loop-i-test.true, c.len-i-end.ensures, length-marks (g.V.ClaimNode.tree c.args.view))

pub name_ref-name-requires : goal.name_ref-name-requires
name_ref-name-requires g t c =
    omega (
      arith,
      c.loop-i-test.true,
      c.len-i-end.ensures,
      length-names (g.V.ClaimNode.tree c.args.view) (sym c.shape-shape.ensures ∙ c.in-Record.is),
    )

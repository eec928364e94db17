use Rattle.formats_tests.proofs.outlines.+write_tree.Given as goal

abbrev pub decreases-write_tree : goal.decreases-write_tree
decreases-write_tree g l = l.levels

-- Two contents are equal in at most one way, so that an equation of contents may be a fact that a struct
-- keeps.
use Rattle.std.specs.Prelude.{◌≡◌, Option}
use Rattle.std.specs.Coded.{Coded, Coded-set, codes}
use Rattle.owned_tree.specs.code.TreeCode.{tree_code}
use Rattle.mdoc_view.specs.Reading.{Content}

content_code : Coded (Option Content)
content_code = hlevel (tree_code, codes)

pub content_fact : (x y : Option Content) → IsProp (x ≡ y)
content_fact x y = Coded-set content_code x y

-- What a credential keeps: that its text says its content. This holds in at most one way.
use Rattle.std.specs.Prelude.{◌≡◌, Option, Some}
use Rattle.std.specs.Coded.{Coded, Coded-set, codes}
use Rattle.base_forms.specs.Texts.{Utf8}
use Rattle.sdjwt_view.specs.Reading.{Content, content_in}
use Rattle.sdjwt_view.specs.code.Content.{content_in_memory}
use Rattle.sdjwt_view.specs.declared.content.Content as memory
use Rattle.owned_tree.specs.code.TreeCode.{tree_code}
use Rattle.sdjwt_view.specs.code.DataCode.{data_code}

content_code : Coded (Option Content)
content_code = hlevel (tree_code, data_code, codes)

-- the text says this content
abbrev pub IsContentOf : Utf8 → memory.Content → Type 0
IsContentOf text c = content_in text ≡ Some (content_in_memory c)

pub is_content_fact : (text : Utf8) (c : memory.Content) → IsProp (IsContentOf text c)
is_content_fact text c = Coded-set content_code (content_in text) (Some (content_in_memory c))

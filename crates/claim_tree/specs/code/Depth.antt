-- How deep JSON values are nested (RFC 8259, sections 4 and 5).
use Rattle.std.specs.Prelude.{ℕ, max, List, [], ◌∷◌}
use Rattle.serde_json.specs.Data.{depth}
use Rattle.serde_json.specs.View.{view}
use Rattle.serde_json.specs.declared.value.Value.{Value}

-- the greatest depth among these values
abbrev pub deepest : List Value → ℕ
deepest [] = 0
deepest (v ∷ vs) = max (depth (view v)) (deepest vs)

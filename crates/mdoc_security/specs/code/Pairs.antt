-- Pairs of encodings in memory.
use Rattle.std.specs.Prelude.{ℕ, List, map}
use Rattle.std.specs.Global.{Vec}
use Rattle.mdoc_items.specs.MapFields.{Entries}

abbrev pub owned_pairs : List (Vec ℕ × Vec ℕ) → Entries
owned_pairs ps = map (λ p. (p.0.items, p.1.items)) ps

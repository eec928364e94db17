-- The tree of an item by one level.
use Rattle.std.proofs.Common.{◌≡◌, ℕ, zero, suc, ◌-◌, ◌<◌, sym, ap₂, arith}
use Rattle.cbor_core.specs.declared.kind.Kind.{Kind}
use Rattle.cbor_core.specs.Views.{Span, kind_of}
use Rattle.mdoc_items.specs.Value.{tree_by, value_at}

pub value_by : (n : ℕ) (item : Span) (k : Kind) → 0 < n → kind_of item ≡ k
    → tree_by (value_at (n - 1)) k item ≡ value_at n item
unfolding value_at
value_by zero item k h is = absurd (omega arith)
value_by (suc n) item k h is = let less : suc n - 1 ≡ n =
    omega arith in ap₂ (λ m j. tree_by (value_at m) j item) less (sym is)

-- What a holder has at a moment: the slots of the wallet, the names of the keys that the device holds, and
-- the second since 1970-01-01T00:00:00Z.
use Rattle.std.specs.Prelude.{ℕ, List}
use Rattle.key_device.specs.Calls.{Held}
use Rattle.fit_table.specs.Slot.{Stands}

pub record Holding : Type 0 where
  pub slots : List Stands
  pub held : Held
  pub now : ℕ

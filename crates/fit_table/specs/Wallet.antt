-- What stands in the slots of a wallet, in order.
use Rattle.std.specs.Prelude.{List, map}
use Rattle.fit_table.specs.Slot.{Stands, slot_of}
use Rattle.fit_table.specs.declared.wallet.Wallet.{Wallet}

abbrev pub slots_in : Wallet → List Stands
slots_in w = map slot_of w.slots.items

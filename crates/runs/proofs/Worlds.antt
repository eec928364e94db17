-- A call that changes one object, in a world that has that object.
use Rattle.std.proofs.Common.{◌≡◌, sym, subst}
use Rattle.outside.specs.Clock.{ClockState}
use Rattle.outside.specs.Store.{StoreState}
use Rattle.outside.specs.Sink.{SinkState}
use Rattle.key_device.specs.Device.{DeviceState}
use Rattle.runs.specs.Runs.{Ending, Runs}
use Rattle.runs.specs.Tree.{Tree}
use Rattle.runs.specs.World.{World}

pub at_store : {R A : Type 0} (t : Tree R A) (old new : StoreState) (end : Ending R A)
    → ((w : World) → Runs t (record w { store = old }) (record w { store = new }) end)
    → (before : World) → before.store ≡ old → Runs t before (record before { store = new }) end
at_store t old new end runs before same =
    subst (λ (s : StoreState). Runs t (record before { store = s }) (record before { store = new }) end)
    (sym same) (runs before)

pub at_device : {R A : Type 0} (t : Tree R A) (old new : DeviceState) (end : Ending R A)
    → ((w : World) → Runs t (record w { device = old }) (record w { device = new }) end)
    → (before : World) → before.device ≡ old → Runs t before (record before { device = new }) end
at_device t old new end runs before same =
    subst (λ (s : DeviceState). Runs t (record before { device = s }) (record before { device = new }) end)
    (sym same) (runs before)

pub at_sink : {R A : Type 0} (t : Tree R A) (old new : SinkState) (end : Ending R A)
    → ((w : World) → Runs t (record w { sink = old }) (record w { sink = new }) end)
    → (before : World) → before.sink ≡ old → Runs t before (record before { sink = new }) end
at_sink t old new end runs before same =
    subst (λ (s : SinkState). Runs t (record before { sink = s }) (record before { sink = new }) end)
    (sym same) (runs before)

pub at_clock : {R A : Type 0} (t : Tree R A) (old new : ClockState) (end : Ending R A)
    → ((w : World) → Runs t (record w { clock = old }) (record w { clock = new }) end)
    → (before : World) → before.clock ≡ old → Runs t before (record before { clock = new }) end
at_clock t old new end runs before same =
    subst (λ (s : ClockState). Runs t (record before { clock = s }) (record before { clock = new }) end)
    (sym same) (runs before)

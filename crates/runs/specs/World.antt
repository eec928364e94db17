-- The objects that are passed in, at one moment, and how one of them is asked.
use Rattle.std.specs.Prelude.{◌≡◌, Option, Some, None}
use Rattle.outside.specs.Calls.{Given, gave, failed}
use Rattle.outside.specs.Clock.{ClockState, IsTold}
use Rattle.outside.specs.Sink.{SinkState, IsWritten}
use Rattle.outside.specs.Store.{StoreState, IsRead}
use Rattle.key_device.specs.Device.{DeviceState, IsJudged, IsSigned}
use Rattle.runs.specs.Tree.{Question, file, judge, sign, time, write, Answer}
use Rattle.runs.specs.declared.fault.Fault.{Fault}
use Rattle.runs.specs.declared.fault.Fault.TheVariants.{Read, Device, Clock, Write}

-- The state of each object. A further object brings its field here, and a case in each definition below.
pub record World : Type 0 where
  pub store : StoreState
  pub device : DeviceState
  pub clock : ClockState
  pub sink : SinkState

-- the fault of the object that is asked
abbrev pub fault_of : Question → Fault
fault_of (file name limit) = Read
fault_of (judge name alg message signature) = Device
fault_of (sign name message) = Device
fault_of time = Clock
fault_of (write text) = Write

-- The object was asked and came to this. It alone changed, as its trait says.
abbrev pub Took : (q : Question) → World → World → Given (Answer q) → Type 0
Took (file name limit) before after answer =
    (new : StoreState) × (after ≡ record before { store = new }) × IsRead name limit before.store new answer
Took (judge name alg message signature) before after answer =
    (new : DeviceState) × (after ≡ record before { device = new })
    × IsJudged name alg message signature before.device new answer
Took (sign name message) before after answer =
    (new : DeviceState) × (after ≡ record before { device = new })
    × IsSigned name message before.device new answer
Took time before after answer =
    (new : ClockState) × (after ≡ record before { clock = new }) × IsTold before.clock new answer
Took (write text) before after answer =
    (new : SinkState) × (after ≡ record before { sink = new }) × IsWritten text before.sink new answer

-- an answer, or a fault
abbrev pub got : {A : Type 0} → Option A → Given A
got (Some answer) = gave answer
got None = failed

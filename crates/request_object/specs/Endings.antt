-- How a call ended, by what it answers.
use Rattle.std.specs.Prelude.{Result, Ok, Err}
use Rattle.runs.specs.Runs.{Ending, value, refused, fault, out_of_memory}
use Rattle.runs.specs.declared.fault.Fault.TheVariants.{Device}
use Rattle.request_object.specs.declared.error.Error.{Error}
use Rattle.request_object.specs.declared.error.Error.TheVariants.{Refused, DeviceFault, NoMemory}
use Rattle.request_content.specs.declared.error.RequestRule.{RequestRule}

abbrev pub early : {A : Type 0} → Error → Ending RequestRule A
early (Refused rule) = refused rule
early DeviceFault = fault Device
early NoMemory = out_of_memory

-- where a value means this
abbrev pub ending : {T A : Type 0} → (T → A) → Result T Error → Ending RequestRule A
ending meaning (Ok v) = value (meaning v)
ending meaning (Err error) = early error

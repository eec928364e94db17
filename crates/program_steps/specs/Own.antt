-- The statuses that a command chooses itself, once its words are read and no object has failed.
use Rattle.std.specs.Prelude.{Bool, true, false}
use Rattle.outside.specs.declared.status.Status.{Status}
use Rattle.outside.specs.declared.status.Status.TheVariants.{Done, Usage, RequestRefused, NotAnOption}
use Rattle.outside.specs.declared.status.Status.TheVariants.{NoOption, ReadFault, WriteFault, DeviceFault}
use Rattle.outside.specs.declared.status.Status.TheVariants.{ClockFault, FileRefused, TooLong, NoMemory}
use Rattle.outside.specs.declared.status.Status.TheVariants.{NotOne, KeyMissing, SpecRefused}

abbrev pub is_own : Status → Bool
is_own Done = true
is_own Usage = false
is_own RequestRefused = true
is_own NotAnOption = true
is_own NoOption = true
is_own ReadFault = false
is_own WriteFault = false
is_own DeviceFault = false
is_own ClockFault = false
is_own FileRefused = true
is_own TooLong = true
is_own NoMemory = false
is_own NotOne = true
is_own KeyMissing = true
is_own SpecRefused = true

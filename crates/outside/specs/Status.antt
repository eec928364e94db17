-- The exit status of each way to end.
use Rattle.std.specs.Prelude.{ℕ}
use Rattle.outside.specs.declared.status.Status.{Status}
use Rattle.outside.specs.declared.status.Status.TheVariants.{Done, Usage, RequestRefused, NotAnOption}
use Rattle.outside.specs.declared.status.Status.TheVariants.{NoOption, ReadFault, WriteFault, DeviceFault}
use Rattle.outside.specs.declared.status.Status.TheVariants.{ClockFault, FileRefused, TooLong, NoMemory}
use Rattle.outside.specs.declared.status.Status.TheVariants.{NotOne, KeyMissing, SpecRefused}

abbrev pub code_of : Status → ℕ
code_of Done = 0
code_of Usage = 2
code_of RequestRefused = 3
code_of NotAnOption = 4
code_of NoOption = 5
code_of ReadFault = 6
code_of WriteFault = 7
code_of DeviceFault = 8
code_of ClockFault = 9
code_of FileRefused = 12
code_of TooLong = 14
code_of NoMemory = 15
code_of NotOne = 17
code_of KeyMissing = 18
code_of SpecRefused = 18

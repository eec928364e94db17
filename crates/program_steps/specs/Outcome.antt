-- What a program prints and the status that it ends with, and the lines that the programs share.
use Rattle.std.specs.Prelude.{ℕ, List, [], ◌∷◌, ◌++◌, codes}
use Rattle.std.specs.Fmt.{decimal}
use Rattle.outside.specs.declared.status.Status.{Status}
use Rattle.outside.specs.declared.status.Status.TheVariants.{Usage, RequestRefused, ReadFault, WriteFault}
use Rattle.outside.specs.declared.status.Status.TheVariants.{DeviceFault, ClockFault, FileRefused, TooLong}
use Rattle.runs.specs.declared.fault.Fault.{Fault}
use Rattle.runs.specs.declared.fault.Fault.TheVariants.{Read, Device, Clock, Write}

pub record Outcome : Type 0 where
  pub status : Status
  pub text : List ℕ

abbrev pub ends_with : Status → List ℕ → Outcome
ends_with status text = record { status = status; text = text }

-- a text and a line feed
abbrev pub line : List ℕ → List ℕ
line text = text ++ 10 ∷ []

-- the words are no command
abbrev pub usage : Outcome
usage = ends_with Usage (line (codes "usage"))

-- An object failed. Where it is the sink, nothing more is printed.
abbrev pub fault_line : Fault → Outcome
fault_line Read = ends_with ReadFault (line (codes "read fault"))
fault_line Device = ends_with DeviceFault (line (codes "device fault"))
fault_line Clock = ends_with ClockFault (line (codes "clock fault"))
fault_line Write = ends_with WriteFault []

-- the status of a fault
abbrev pub fault_status : Fault → Status
fault_status f = (fault_line f).status

-- the query breaks a rule
abbrev pub query_refused : ℕ → Outcome
query_refused rule = ends_with RequestRefused (line (codes "refused query " ++ decimal rule))

-- the file has more bytes than its limit
abbrev pub too_long : List ℕ → Outcome
too_long name = ends_with TooLong (line (codes "too long " ++ name))

-- the line with this number, from 1, is not of the file's form
abbrev pub file_refused : List ℕ → ℕ → Outcome
file_refused name number =
    ends_with FileRefused (line (codes "file refused " ++ (name ++ (codes " " ++ decimal number))))

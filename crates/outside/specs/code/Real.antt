-- What the real forms count, and what they make of what the system gives.
use Rattle.std.specs.Prelude.{ℕ, List, length, Option, Some, None, Result, Ok, Err, Vec, nat_lt}
use Rattle.std.specs.Prelude.{if◌then◌else◌}
use Rattle.std.specs.IoError.{error_kind}
use Rattle.std.specs.declared.alloc.Global.{Global}
use Rattle.std.specs.declared.io.Error.{Error}
use Rattle.std.specs.declared.io.ErrorKind.{ErrorKind}
use Rattle.std.specs.declared.io.ErrorKind.TheVariants.{OutOfMemory}
use Rattle.outside.specs.declared.error.StoreError.{StoreError}
use Rattle.outside.specs.declared.error.StoreError.TheVariants.{Failed, TooLong, NoMemory}
use Rattle.outside.specs.declared.real.FileStore.{FileStore}
use Rattle.outside.specs.declared.real.OutSink.{OutSink}
use Rattle.outside.specs.declared.real.SystemClock.{SystemClock}
use Rattle.outside.specs.Clock.{ClockState}
use Rattle.outside.specs.Faults.{next}
use Rattle.outside.specs.Sink.{SinkState}
use Rattle.outside.specs.Store.{StoreState}

-- how many reads failed, up to 2^64 - 1
abbrev pub faults_of : {R A B : Type 0} → FileStore R A B → ℕ
faults_of store = store.faults

-- It tells nothing, and a fault counts for every name.
abbrev pub file_state : {R A B : Type 0} → FileStore R A B → StoreState
file_state store = record { files = None; reads = None; faults = λ name. faults_of store }

-- how many writes failed, up to 2^64 - 1
abbrev pub out_faults_of : {R : Type 0} → OutSink R → ℕ
out_faults_of sink = sink.faults

-- It tells nothing.
abbrev pub out_state : {R : Type 0} → OutSink R → SinkState
out_state sink = record { written = None; empty_pieces = None; faults = out_faults_of sink }

-- how often the clock failed, up to 2^64 - 1
abbrev pub clock_faults_of : {R : Type 0} → SystemClock R → ℕ
clock_faults_of clock = clock.faults

-- It tells nothing.
abbrev pub clock_state : {R : Type 0} → SystemClock R → ClockState
clock_state clock = record { moments = None; faults = clock_faults_of clock }

-- these bytes, unless they are more than the limit
abbrev pub within : ℕ → List ℕ → Option (List ℕ)
within limit bytes = if nat_lt limit (length bytes) then None else Some bytes

-- what an error of the system is to a store: every one but that of memory is a fault
abbrev pub cause_of : ErrorKind → StoreError
cause_of OutOfMemory = NoMemory
cause_of kind = Failed

-- what a store answers where the system gave a file, none where it is too long, or an error
abbrev pub answer_to : Result (Option (Vec ℕ Global)) Error → Result (Vec ℕ Global) StoreError
answer_to (Ok (Some bytes)) = Ok bytes
answer_to (Ok None) = Err TooLong
answer_to (Err error) = Err (cause_of (error_kind error))

-- the count of faults after a read
abbrev pub faults_after_read : {T : Type 0} → ℕ → Result T StoreError → ℕ
faults_after_read faults (Ok value) = faults
faults_after_read faults (Err Failed) = next faults
faults_after_read faults (Err TooLong) = faults
faults_after_read faults (Err NoMemory) = faults

-- the count of faults after a write, or a look at the clock
abbrev pub faults_after : {T E : Type 0} → ℕ → Result T E → ℕ
faults_after faults (Ok value) = faults
faults_after faults (Err error) = next faults

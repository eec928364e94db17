-- What a sink in memory holds, and how many bytes a write takes.
use Rattle.std.specs.Prelude.{ℕ, ◌-◌, ◌==◌, ◌&&◌, min, List, length, Option, Some, None, if◌then◌else◌}
use Rattle.std.specs.Prelude.{nat_lt}
use Rattle.std.specs.List.{list_any}
use Rattle.outside.specs.declared.memory_sink.MemorySink.{MemorySink}
use Rattle.outside.specs.Sink.{SinkState}

-- what was written
abbrev pub bytes_in : MemorySink → List ℕ
bytes_in sink = sink.bytes.items

-- how many bytes it may hold
abbrev pub room_of : MemorySink → ℕ
room_of sink = sink.room

-- how many writes were made, up to 2^64 - 1, which is the number of the next
abbrev pub calls_of : MemorySink → ℕ
calls_of sink = sink.calls

-- how many of these were of no byte, up to 2^64 - 1
abbrev pub empty_pieces_of : MemorySink → ℕ
empty_pieces_of sink = sink.empty_pieces

-- the numbers of the calls that are to fail
abbrev pub failing_in : MemorySink → List ℕ
failing_in sink = sink.failing.items

-- how many writes failed, up to 2^64 - 1
abbrev pub faults_of : MemorySink → ℕ
faults_of sink = sink.faults

-- It tells all.
abbrev pub state_of : MemorySink → SinkState
state_of sink = record {
  written = Some (bytes_in sink);
  empty_pieces = Some (empty_pieces_of sink);
  faults =
      faults_of sink;
}

-- how many bytes fit of a piece of this length, and none where nothing of a piece that is not empty does
abbrev pub fitting : ℕ → ℕ → Option ℕ
fitting left size = if min size left == 0 && nat_lt 0 size then None else Some (min size left)

-- how many bytes a call takes of a piece of this length, and none where the call fails
abbrev pub taken : MemorySink → ℕ → ℕ → Option ℕ
taken sink call size =
    if list_any (λ n. n == call) (failing_in sink) then None else fitting
    (room_of sink - length (bytes_in sink)) size

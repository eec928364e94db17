-- The objects were asked what the tree asks, in that order, and nothing else.
use Rattle.std.specs.Prelude.{◌≡◌, List, ◌++◌, option_map}
use Rattle.key_device.specs.Calls.{Grew}
use Rattle.runs.specs.Asked.{Answered, Goes, reads_in, moments_in, Writes}
use Rattle.runs.specs.Runs.{Ending, Runs}
use Rattle.runs.specs.Signed.{signatures, AreGenuine, calls}
use Rattle.runs.specs.Tree.{Tree}
use Rattle.runs.specs.World.{World}

-- What was answered: the tree goes along it to the end; it is all that the store, the device and the clock
-- were asked for, and all that was written to the sink, where they tell it; each signature in it is judged
-- yes by the device as it is left; the sink was offered no empty piece; and the store's files are as they
-- were. Where memory ran out in the last read, the store may have that on record, or not.
pub record Went {R A : Type 0} (t : Tree R A) (before after : World) (end : Ending R A) : Type 0 where
  pub log : List Answered
  pub goes : Goes t log end
  pub reads : after.store.reads ≡ option_map (λ told. told ++ reads_in log) before.store.reads
  pub writes : Writes log before.sink.written after.sink.written
  pub pieces : after.sink.empty_pieces ≡ before.sink.empty_pieces
  pub files : after.store.files ≡ before.store.files
  pub calls : Grew before.device.calls after.device.calls (calls log)
  pub moments : before.clock.moments ≡ option_map (λ later. moments_in log ++ later) after.clock.moments
  pub genuine : AreGenuine after.device.held after.device.judged (signatures log)

-- However a run ends, the objects were asked what the tree asks, in that order, and nothing else; and what
-- the device signed it judges yes afterwards.
abbrev pub AsksInOrder : Type 0 → Type 0 → Type 0
AsksInOrder R A = (t : Tree R A) (before after : World) (end : Ending R A) → Runs t before after end
    → Went t before after end

-- What the objects were asked in a run: the questions of the tree, in their order, and nothing else.
use Rattle.std.specs.Prelude.{◌≡◌, ◌⊎◌, ℕ, ◌≤◌, List, [], ◌∷◌, ◌++◌, length, take, Option, Some, None}
use Rattle.std.specs.Prelude.{option_map}
use Rattle.outside.specs.Store.{Reads, file_read}
use Rattle.runs.specs.Runs.{Ending, HandsOn, Refuses, Faults, GivesUp}
use Rattle.runs.specs.Tree.{Question, file, judge, sign, time, write, Answer, Tree, gives, stops, needs}
use Rattle.runs.specs.Tree.{tries}
use Rattle.runs.specs.World.{fault_of}

-- a question, and its answer, or none where the object failed or memory ran out in the call
pub data Answered : Type 0 where
  answered : (q : Question) → Option (Answer q) → Answered

-- The tree goes along these answers, one for each question that was asked, to this end. No object stands in
-- this.
unfoldable pub Goes : {R A : Type 0} → Tree R A → List Answered → Ending R A → Type 0
Goes (gives v) log end = (log ≡ []) × HandsOn v end
Goes (stops refusal) log end = (log ≡ []) × Refuses refusal end
Goes (needs q next) log end =
    ((answer : Answer q) × (rest : List Answered) × (log ≡ answered q (Some answer) ∷ rest)
    × Goes (next answer) rest end)
    ⊎ ((log ≡ answered q None ∷ []) × Faults (fault_of q) end)
    ⊎ (((log ≡ []) ⊎ (log ≡ answered q None ∷ [])) × GivesUp end)
Goes (tries q next) log end =
    ((answer : Option (Answer q)) × (rest : List Answered) × (log ≡ answered q answer ∷ rest)
    × Goes (next answer) rest end)
    ⊎ (((log ≡ []) ⊎ (log ≡ answered q None ∷ [])) × GivesUp end)

-- the reads that a store is asked for
abbrev pub reads_in : List Answered → Reads
reads_in [] = []
reads_in (answered (file name limit) answer ∷ log) = file_read name limit ∷ reads_in log
reads_in (answered (judge name alg message signature) answer ∷ log) = reads_in log
reads_in (answered (sign name message) answer ∷ log) = reads_in log
reads_in (answered time answer ∷ log) = reads_in log
reads_in (answered (write text) answer ∷ log) = reads_in log

abbrev pub moment_of : (q : Question) → Option (Answer q) → List ℕ
moment_of (file name limit) answer = []
moment_of (judge name alg message signature) answer = []
moment_of (sign name message) answer = []
moment_of time (Some moment) = moment ∷ []
moment_of time None = []
moment_of (write text) answer = []

-- the moments that a clock gives
abbrev pub moments_in : List Answered → List ℕ
moments_in [] = []
moments_in (answered q answer ∷ log) = moment_of q answer ++ moments_in log

-- The texts that a sink is given are written to it, each whole, or up to where the sink failed in it.
abbrev pub Writes : List Answered → Option (List ℕ) → Option (List ℕ) → Type 0
Writes [] old new = new ≡ old
Writes (answered (file name limit) answer ∷ log) old new = Writes log old new
Writes (answered (judge name alg message signature) answer ∷ log) old new = Writes log old new
Writes (answered (sign name message) answer ∷ log) old new = Writes log old new
Writes (answered time answer ∷ log) old new = Writes log old new
Writes (answered (write text) (Some all) ∷ log) old new =
    Writes log (option_map (λ told. told ++ text) old) new
Writes (answered (write text) None ∷ log) old new =
    (n : ℕ) × (n ≤ length text) × Writes log (option_map (λ told. told ++ take n text) old) new

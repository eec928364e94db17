-- The end that a tree comes to by what the objects tell, where no object fails.
use Rattle.std.specs.Prelude.{◌≡◌, ◌≢◌, ◌⊎◌, ⊤, ℕ, Bool, false, List, [], ◌∷◌, ◌++◌, length, drop, nat_lt}
use Rattle.std.specs.Prelude.{Option, Some, None, is_some, option_and_then, slice_get}
use Rattle.std.specs.Prelude.{IfSome, IsSomeAnd, if◌then◌else◌, option_map}
use Rattle.outside.specs.Sink.{written}
use Rattle.outside.specs.Store.{Files, Reads, file_read, File, whole, longer}
use Rattle.key_device.specs.Calls.{Judges}
use Rattle.runs.specs.Counts.{Counts, counts, RoseBy, Avoids, Insists, IsNoFault}
use Rattle.runs.specs.Runs.{Ending, value, refused, out_of_memory, Runs}
use Rattle.runs.specs.Tree.{Question, file, judge, sign, time, write, Answer, Tree, gives, stops, needs}
use Rattle.runs.specs.Tree.{tries}
use Rattle.runs.specs.World.{World}

-- the files of a store, and the reads that were made and the bytes that were written so far, where these are
-- told; what a device judges yes; and the moments that a clock has still to give, where it tells them
pub record Sources : Type 0 where
  pub files : Files
  pub reads : Option Reads
  pub written : Option (List ℕ)
  pub judged : Judges
  pub moments : Option (List ℕ)

-- the objects tell that
pub record Tells (w : World) (sources : Sources) : Type 0 where
  pub files : w.store.files ≡ Some sources.files
  pub reads : w.store.reads ≡ sources.reads
  pub written : w.sink.written ≡ sources.written
  pub judged : w.device.judged ≡ sources.judged
  pub moments : w.clock.moments ≡ sources.moments

-- a file of these bytes, as it is read
abbrev pub fitting : ℕ → List ℕ → File
fitting limit bytes = if nat_lt limit (length bytes) then longer else whole bytes

-- the answer to a question, where they determine it: a signature may be any that is judged yes
abbrev pub answer_of : (q : Question) → Sources → Option (Answer q)
answer_of (file name limit) sources = option_map (fitting limit) (sources.files name)
answer_of (judge name alg message signature) sources = Some (sources.judged name alg message signature)
answer_of (sign name message) sources = None
answer_of time sources = option_and_then (λ moments. slice_get moments 0) sources.moments
answer_of (write text) sources = Some written

-- what they tell once the question was answered
abbrev pub after : Question → Sources → Sources
after (file name limit) sources = record sources {
  reads =
      option_map (λ told. told ++ file_read name limit ∷ []) sources.reads;
}
after (judge name alg message signature) sources = sources
after (sign name message) sources = sources
after time sources = record sources { moments = option_map (drop 1) sources.moments }
after (write text) sources = record sources { written = option_map (λ told. told ++ text) sources.written }

-- the questions up to the end, the end where it is determined, and what the objects tell then
pub record Expected (R A : Type 0) : Type 0 where
  pub asked : List Question
  pub end : Option (Ending R A)
  pub told : Sources

abbrev pub expects : {R A : Type 0} → Sources → Ending R A → Expected R A
expects sources end = record { asked = []; end = Some end; told = sources }

-- a question before what is expected by its answer
abbrev pub expected_by : {R A X : Type 0} → Question → Sources → Option X → (X → Expected R A) → Expected R A
expected_by q sources None rest = record { asked = q ∷ []; end = None; told = sources }
expected_by q sources (Some answer) rest = record (rest answer) { asked = q ∷ (rest answer).asked }

abbrev pub expected : {R A : Type 0} → Tree R A → Sources → Expected R A
expected (gives v) sources = expects sources (value v)
expected (stops refusal) sources = expects sources (refused refusal)
expected (needs q next) sources = expected_by q sources (answer_of q sources) (λ answer.
    expected (next answer) (after q sources))
expected (tries q next) sources = expected_by q sources (answer_of q sources) (λ answer.
    expected (next (Some answer)) (after q sources))

-- at none of these questions a count rose
abbrev pub NoneRose : Counts → Counts → List Question → Type 0
NoneRose before after [] = ⊤
NoneRose before after (q ∷ questions) = (¬ RoseBy q before after) × NoneRose before after questions

-- Where no count rose of what the tree asks, and memory did not run out, a run ends as the objects determine,
-- and they were asked exactly that.
abbrev pub EndsAsExpected : Type 0 → Type 0 → Type 0
EndsAsExpected R A = (t : Tree R A) (before later : World) (sources : Sources) (end : Ending R A)
    → Runs t before later end → Tells before sources
    → NoneRose (counts before) (counts later) (expected t sources).asked → end ≢ out_of_memory
    → IfSome (expected t sources).end (λ wanted. (end ≡ wanted) × Tells later (expected t sources).told)

-- the clock tells the moments that it has still to give
abbrev pub clock_tells : Sources → Bool
clock_tells sources = is_some sources.moments

-- No object tells the answer: a signature is asked for, or the time of a clock that tells no moments.
abbrev pub IsUntold : Bool → Question → Type 0
IsUntold tells (file name limit) = ⊥
IsUntold tells (judge name alg message signature) = ⊥
IsUntold tells (sign name message) = ⊤
IsUntold tells time = tells ≡ false
IsUntold tells (write text) = ⊥

-- one of these questions is one of those
abbrev pub AsksUntold : Bool → List Question → Type 0
AsksUntold tells [] = ⊥
AsksUntold tells (q ∷ questions) = IsUntold tells q ⊎ AsksUntold tells questions

-- Where a tree passes over no fault, and a run ends by none and memory did not run out, it ends as the
-- objects determine, whatever the counts are; or else something was asked for that they do not tell.
abbrev pub EndsAsTold : Type 0 → Type 0 → Type 0
EndsAsTold R A = (t : Tree R A) (before later : World) (sources : Sources) (end : Ending R A)
    → Insists t → Runs t before later end → Tells before sources → IsNoFault end → end ≢ out_of_memory
    → IsSomeAnd (expected t sources).end (λ wanted. (end ≡ wanted) × Tells later (expected t sources).told)
    ⊎ AsksUntold (clock_tells sources) (expected t sources).asked

-- That is not asked for where the tree never asks for it.
abbrev pub ExpectsTold : Type 0 → Type 0 → Type 0
ExpectsTold R A = (t : Tree R A) (sources : Sources) → Avoids (IsUntold (clock_tells sources)) t
    → ¬ AsksUntold (clock_tells sources) (expected t sources).asked

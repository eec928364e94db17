-- A run in which no object fails ends as the objects determine.
use Rattle.std.proofs.Common.{◌≡◌, ◌<◌, ◌≤◌, ◌++◌, ◌∙◌, inl, inr, ℕ, List, [], ◌∷◌, length, nat_lt, Bool}
use Rattle.std.proofs.Common.{true, false, Option, None, Some, cond, refl, sym, ap, subst, option_map, arith}
use Rattle.std.specs.Prelude.{IfSome, IsSomeAnd, ◌≢◌, ◌⊎◌, ⊤, drop, is_some, option_and_then, slice_get}
use borrow.Author.Tests.{ltb-true, ltb-false}
use Rattle.outside.specs.Calls.{gave}
use Rattle.outside.specs.Clock.{TakesFirst}
use Rattle.outside.specs.Sink.{Written, written, TakesAll}
use Rattle.outside.specs.Store.{Reads, file_read, File, whole, longer, Fits, IsWithin}
use Rattle.key_device.specs.Calls.{Judges}
use Rattle.runs.specs.Counts.{Counts, counts, RoseBy, Insists}
use Rattle.runs.specs.Expected.{Sources, Tells, fitting, answer_of, after, Expected, expected_by, expected}
use Rattle.runs.specs.Expected.{NoneRose, EndsAsExpected, clock_tells, IsUntold, AsksUntold, EndsAsTold}
use Rattle.runs.specs.Runs.{Ending, value, refused, fault, out_of_memory, HandsOn, Refuses, GivesUp, Runs}
use Rattle.runs.specs.Tree.{Question, file, judge, sign, time, write, Answer, gives, stops, needs, tries}
use Rattle.runs.specs.World.{World, fault_of, Took}
use Rattle.runs.proofs.CountLaws.{gave_counts, failed_counts, counts_never_fall, rose_on, no_fault_is}

-- ---- what is told

fitting_at : (limit : ℕ) (bytes : List ℕ) (b : Bool) → nat_lt limit (length bytes) ≡ b → length bytes ≤ limit
    → whole bytes ≡ cond b longer (whole bytes)
fitting_at limit bytes true is within = absurd (omega (arith, ltb-true limit (length bytes) is))
fitting_at limit bytes false is within = refl

longer_at : (limit : ℕ) (bytes : List ℕ) (b : Bool) → nat_lt limit (length bytes) ≡ b → limit < length bytes
    → longer ≡ cond b longer (whole bytes)
longer_at limit bytes true is long = refl
longer_at limit bytes false is long = let short : length bytes ≤ limit = ltb-false limit (length bytes) is in
    absurd (omega (arith, long, short))

file_is : (limit : ℕ) (held : Option (List ℕ)) (answer : File) → Fits limit held (gave answer)
    → IsWithin limit (gave answer)
    → IsSomeAnd (option_map (fitting limit) held) (λ a. answer ≡ a)
file_is limit None (whole bytes) fits within = absurd (cc)
file_is limit None longer fits within = absurd fits
file_is limit (Some bytes) (whole read) fits within =
    let same : bytes ≡ read = cc in
    ap whole (sym same) ∙ fitting_at limit bytes (nat_lt limit (length bytes)) refl (subst (λ (b : List ℕ).
    length b ≤ limit) (sym same) within)
file_is limit (Some bytes) longer fits within = longer_at limit bytes (nat_lt limit (length bytes)) refl fits

written_is : (all : Written) → all ≡ written
written_is written = refl

all_taken : (text : List ℕ) (old new : Option (List ℕ)) (all : Written) → TakesAll text old new (gave all)
    → new ≡ option_map (λ told. told ++ text) old
all_taken text old new written taken = taken

with_that : {A : Type 0} (P : A → Type 0) (T : Type 0) (o : Option A) → IsSomeAnd o P → T
    → IsSomeAnd o (λ a. P a × T)
with_that P T None p t = absurd p
with_that P T (Some a) p t = (p, t)

-- the moment that a clock gives is the first that it tells
moment_is : (old new : Option (List ℕ)) (moment : ℕ) (T : Type 0) → TakesFirst old new (gave moment)
    → (new ≡ option_map (drop 1) old → T)
    → IsSomeAnd (option_and_then (λ moments. slice_get moments 0) old) (λ a. (moment ≡ a) × T)
    ⊎ ((is_some old ≡ false)
    × (option_and_then (λ (moments : List ℕ). slice_get moments 0) old ≡ None))
moment_is None new moment T first on = inr (refl, refl)
moment_is (Some told) None moment T first on = absurd (cc)
moment_is (Some []) (Some later) moment T first on = absurd (cc)
moment_is (Some (x ∷ told)) (Some later) moment T first on =
    let same : x ∷ told ≡ moment ∷ later = cc in
    let one : x ≡ moment = cc in
    let rest : told ≡ later = cc in
    inl (sym one, on (ap (λ (l : List ℕ). Some l) (sym rest)))

-- what was answered is what the objects determine, and they tell on, unless they do not tell it
told : (q : Question) (before mid : World) (sources : Sources) (answer : Answer q) → Tells before sources
    → Took q before mid (gave answer)
    → IsSomeAnd (answer_of q sources) (λ a. (answer ≡ a) × Tells mid (after q sources))
    ⊎ (IsUntold (clock_tells sources) q × (answer_of q sources ≡ None))
told (file name limit) before mid sources answer tells (new, is, read) =
    inl (with_that _ (Tells mid (after (file name limit) sources)) _
    (file_is limit (sources.files name) answer (rw tells.files at read.file) read.within) (rw is (record {
      files = read.same ∙ tells.files;
      reads = read.recorded ∙ ap (option_map (λ (r : Reads). r ++ file_read name limit ∷ [])) tells.reads;
      written = tells.written;
      judged = tells.judged;
      moments = tells.moments;
    })))
told (judge name alg message signature) before mid sources answer tells (new, is, judged) = inl (
  judged.verdict ∙ ap (λ (f : Judges). f name alg message signature) tells.judged,
  rw is (record {
    files = tells.files;
    reads = tells.reads;
    written = tells.written;
    judged = judged.judged ∙ tells.judged;
    moments = tells.moments;
  }),
)
told (sign name message) before mid sources answer tells took = inr (tt, refl)
told time before mid sources answer tells (new, is, given) =
    moment_is sources.moments new.moments answer (Tells mid (after time sources))
    (sym tells.moments ∙ given.first)
    (λ left. rw is (record {
      files = tells.files;
      reads = tells.reads;
      written = tells.written;
      judged = tells.judged;
      moments = left;
    }))
told (write text) before mid sources all tells (new, is, taken) = inl (
  written_is all,
  rw is (record {
    files = tells.files;
    reads = tells.reads;
    written = all_taken text before.sink.written new.written all taken.taken
        ∙ ap (option_map (λ (t : List ℕ). t ++ text)) tells.written;
    judged = tells.judged;
    moments = tells.moments;
  }),
)

-- ---- ends

handed : {R A : Type 0} (v : A) (end : Ending R A) → HandsOn v end → end ≢ out_of_memory → end ≡ value v
handed v (value w) hands memory = ap value hands
handed v (refused refusal) hands memory = absurd hands
handed v (fault f) hands memory = absurd hands
handed v out_of_memory hands memory = absurd (memory refl)

refused_is : {R A : Type 0} (o : R) (end : Ending R A) → Refuses o end → end ≢ out_of_memory → end ≡ refused o
refused_is o (value w) refuses memory = absurd refuses
refused_is o (refused refusal) refuses memory = ap refused refuses
refused_is o (fault f) refuses memory = absurd refuses
refused_is o out_of_memory refuses memory = absurd (memory refl)

gives_up_is : {R A : Type 0} (end : Ending R A) → GivesUp end → end ≡ out_of_memory
gives_up_is (value w) gives_up = absurd gives_up
gives_up_is (refused refusal) gives_up = absurd gives_up
gives_up_is (fault f) gives_up = absurd gives_up
gives_up_is out_of_memory gives_up = refl

-- where no count rose of what is asked, the end is the expected one
abbrev EndsBy : {R A : Type 0} → Counts → Counts → World → Ending R A → Expected R A → Type 0
EndsBy before after later end e = NoneRose before after e.asked → IfSome e.end (λ wanted. (end ≡ wanted)
    × Tells later e.told)

by_answer : {R A X : Type 0} (before after : Counts) (later : World) (end : Ending R A) (q : Question)
    (sources : Sources) (o : Option X) (answer : X) (T : Type 0) (rest : X → Expected R A)
    → IsSomeAnd o (λ a. (answer ≡ a) × T) ⊎ (IsUntold (clock_tells sources) q × (o ≡ None))
    → (T → EndsBy before after later end (rest answer))
    → EndsBy before after later end (expected_by q sources o rest)
by_answer before after later end q sources None answer T rest is by_rest = λ none. tt
by_answer before after later end q sources (Some a) answer T rest (inl is) by_rest =
    λ none. subst (λ (x : _). EndsBy before after later end (rest x)) is.0 (by_rest is.1) none.1
by_answer before after later end q sources (Some a) answer T rest (inr is) by_rest = absurd (cc is.1)

none_first : {R A X : Type 0} (before after : Counts) (q : Question) (sources : Sources) (o : Option X)
    (rest : X → Expected R A)
    → NoneRose before after (expected_by q sources o rest).asked → RoseBy q before after → ⊥
none_first before after q sources None rest none = none.0
none_first before after q sources (Some a) rest none = none.0

since : {R A : Type 0} (before mid after : Counts) (later : World) (end : Ending R A) (e : Expected R A)
    → mid ≡ before
    → EndsBy mid after later end e → EndsBy before after later end e
since before mid after later end e same ends = subst (λ (n : Counts). EndsBy n after later end e) same ends

pub ends_as_expected : {R A : Type 0} → EndsAsExpected R A
unfolding Runs
ends_as_expected (gives v) before later sources end run tells none memory =
    (handed v end run.1 memory, subst (λ (w : World). Tells w sources) (sym run.0) tells)
ends_as_expected (stops refusal) before later sources end run tells none memory =
    (refused_is refusal end run.1 memory, subst (λ (w : World). Tells w sources) (sym run.0) tells)
ends_as_expected (needs q next) before later sources end (inl (answer, mid, took, rest)) tells none memory =
    by_answer (counts before) (counts later) later end q sources (answer_of q sources) answer
    (Tells mid (after q sources)) (λ a. expected (next a) (after q sources))
    (told q before mid sources answer tells took)
    (λ on. since (counts before) (counts mid) (counts later) later end (expected (next answer)
    (after q sources)) (gave_counts q before mid answer took)
    (λ more. ends_as_expected (next answer) mid later (after q sources) end rest on more memory))
    none
ends_as_expected (needs q next) before later sources end (inr (inl faulted)) tells none memory =
    absurd (none_first _ _ q sources (answer_of q sources) (λ a. expected (next a) (after q sources)) none
    (failed_counts q before later faulted.0))
ends_as_expected (needs q next) before later sources end (inr (inr given_up)) tells none memory =
    absurd (memory (gives_up_is end given_up.1))
ends_as_expected (tries q next) before later sources end (inl (None, mid, took, rest)) tells none memory =
    absurd (none_first _ _ q sources (answer_of q sources) (λ a.
    expected (next (Some a)) (after q sources)) none
    (rose_on q _ (counts mid) _ (failed_counts q before mid took)
    (counts_never_fall (next None) mid later end rest)))
ends_as_expected (tries q next) before later sources end
    (inl (Some answer, mid, took, rest)) tells none memory =
    by_answer (counts before) (counts later) later end q sources (answer_of q sources) answer
    (Tells mid (after q sources)) (λ a. expected (next (Some a)) (after q sources))
    (told q before mid sources answer tells took)
    (λ on. since (counts before) (counts mid) (counts later) later end (expected (next (Some answer))
    (after q sources)) (gave_counts q before mid answer took)
    (λ more. ends_as_expected (next (Some answer)) mid later (after q sources) end rest on more memory))
    none
ends_as_expected (tries q next) before later sources end (inr given_up) tells none memory =
    absurd (memory (gives_up_is end given_up.1))

-- ---- whatever the counts are

-- the end is the expected one, or something was asked for that is not told
abbrev TellsEnd : {R A : Type 0} → Bool → World → Ending R A → Expected R A → Type 0
TellsEnd tells later end e =
    IsSomeAnd e.end (λ wanted. (end ≡ wanted) × Tells later e.told) ⊎ AsksUntold tells e.asked

told_on : {R A : Type 0} (tells : Bool) (later : World) (end : Ending R A) (q : Question) (e : Expected R A)
    → TellsEnd tells later end e → TellsEnd tells later end (record e { asked = q ∷ e.asked })
told_on tells later end q e (inl is) = inl is
told_on tells later end q e (inr asks) = inr (inr asks)

by_told : {R A X : Type 0} (later : World) (end : Ending R A) (q : Question) (sources : Sources)
    (o : Option X) (answer : X) (T : Type 0) (rest : X → Expected R A)
    → IsSomeAnd o (λ a. (answer ≡ a) × T) ⊎ (IsUntold (clock_tells sources) q × (o ≡ None))
    → (T → TellsEnd (clock_tells sources) later end (rest answer))
    → TellsEnd (clock_tells sources) later end (expected_by q sources o rest)
by_told later end q sources None answer T rest (inl is) by_rest = absurd is
by_told later end q sources None answer T rest (inr is) by_rest = inr (inl is.0)
by_told later end q sources (Some a) answer T rest (inl is) by_rest =
    told_on (clock_tells sources) later end q (rest a)
    (subst (λ (x : _). TellsEnd (clock_tells sources) later end (rest x)) is.0 (by_rest is.1))
by_told later end q sources (Some a) answer T rest (inr is) by_rest = absurd (cc is.1)

still_some : (moments : Option (List ℕ)) → is_some (option_map (drop 1) moments) ≡ is_some moments
still_some None = refl
still_some (Some told) = refl

-- a clock that tells its moments still does, and one that does not does not
pub tells_on : (q : Question) (sources : Sources) → clock_tells (after q sources) ≡ clock_tells sources
tells_on (file name limit) sources = refl
tells_on (judge name alg message signature) sources = refl
tells_on (sign name message) sources = refl
tells_on time sources = still_some sources.moments
tells_on (write text) sources = refl

pub ends_as_told : {R A : Type 0} → EndsAsTold R A
unfolding Runs Insists
ends_as_told (gives v) before later sources end insists run tells none memory =
    inl (handed v end run.1 memory, subst (λ (w : World). Tells w sources) (sym run.0) tells)
ends_as_told (stops refusal) before later sources end insists run tells none memory =
    inl (refused_is refusal end run.1 memory, subst (λ (w : World). Tells w sources) (sym run.0) tells)
ends_as_told (needs q next) before later sources end insists
    (inl (answer, mid, took, rest)) tells none memory =
    by_told later end q sources (answer_of q sources) answer (Tells mid (after q sources))
    (λ a. expected (next a) (after q sources)) (told q before mid sources answer tells took)
    (λ on. subst (λ (tells : Bool). TellsEnd tells later end (expected (next answer) (after q sources)))
    (tells_on q sources)
    (ends_as_told (next answer) mid later (after q sources) end (insists answer) rest on none memory))
ends_as_told (needs q next) before later sources end insists (inr (inl faulted)) tells none memory =
    no_fault_is _ (fault_of q) end faulted.1 none
ends_as_told (needs q next) before later sources end insists (inr (inr given_up)) tells none memory =
    absurd (memory (gives_up_is end given_up.1))
ends_as_told (tries q next) before later sources end insists run tells none memory = absurd insists

-- The objects are asked what the tree asks, in that order, and nothing else.
use Rattle.std.proofs.Common.{◌≡◌, ◌++◌, ◌∙◌, ◌⊎◌, inl, inr, ℕ, List, [], ◌∷◌, Option, None}
use Rattle.std.proofs.Common.{Some, option_map, refl, sym, ap, subst, append_assoc, append-nil, arith}
use Rattle.outside.specs.Calls.{Given, gave, failed, exhausted, Grows}
use Rattle.outside.specs.Sink.{written}
use Rattle.outside.specs.Store.{FileRead, Reads, file_read}
use Rattle.key_device.specs.Calls.{Grew}
use Rattle.runs.specs.Asked.{Answered, answered, Goes, reads_in, moment_of, moments_in, Writes}
use Rattle.runs.specs.Runs.{Runs}
use Rattle.runs.specs.Signed.{signatures, AreGenuine, calls}
use Rattle.runs.specs.Tree.{Question, file, judge, sign, time, write, Answer, gives, stops, needs, tries}
use Rattle.runs.specs.Went.{AsksInOrder}
use Rattle.runs.specs.World.{World, Took, got}
use Rattle.runs.proofs.Signing.{held_stays, judged_only_adds, grew_none, calls_step, calls_left, genuine_step}
use Rattle.runs.proofs.Signing.{genuine_none}

-- ---- reads

reads_none : (old new : Option Reads) → new ≡ old → new ≡ option_map (λ told. told ++ []) old
reads_none None new same = same
reads_none (Some told) new same = same ∙ ap (λ (r : Reads). Some r) (sym (append-nil told))

reads_then : (old mid new : Option Reads) (first second : Reads)
    → mid ≡ option_map (λ told. told ++ first) old → new ≡ option_map (λ told. told ++ second) mid
    → new ≡ option_map (λ told. told ++ (first ++ second)) old
reads_then None mid new first second one two = two ∙ ap (option_map (λ (r : Reads). r ++ second)) one
reads_then (Some told) mid new first second one two =
    two ∙ ap (option_map (λ (r : Reads). r ++ second)) one
    ∙ ap (λ (r : Reads). Some r) (append_assoc told first second)

grown : (old new : Option Reads) (read : FileRead) (A : Type 0) (answer : Option A)
    → Grows old new read (got answer) → new ≡ option_map (λ told. told ++ read ∷ []) old
grown old new read A None grows = grows
grown old new read A (Some a) grows = grows

reads_step : (q : Question) (answer : Option (Answer q)) (log : List Answered) (before mid after : World)
    → Took q before mid (got answer)
    → after.store.reads ≡ option_map (λ told. told ++ reads_in log) mid.store.reads
    → after.store.reads ≡ option_map (λ told. told ++ reads_in (answered q answer ∷ log)) before.store.reads
reads_step (file name limit) answer log before mid after (new, is, read) rest =
    reads_then before.store.reads mid.store.reads after.store.reads (file_read name limit ∷ []) (reads_in log)
    (ap (λ (w : World). w.store.reads) is
    ∙ grown before.store.reads new.reads (file_read name limit) _ answer read.recorded) rest
reads_step (judge name alg message signature) answer log before mid after (new, is, asked) rest =
    rest ∙ ap (λ (w : World). option_map (λ told. told ++ reads_in log) w.store.reads) is
reads_step (sign name message) answer log before mid after (new, is, asked) rest =
    rest ∙ ap (λ (w : World). option_map (λ told. told ++ reads_in log) w.store.reads) is
reads_step time answer log before mid after (new, is, told) rest =
    rest ∙ ap (λ (w : World). option_map (λ told. told ++ reads_in log) w.store.reads) is
reads_step (write text) answer log before mid after (new, is, taken) rest =
    rest ∙ ap (λ (w : World). option_map (λ told. told ++ reads_in log) w.store.reads) is

-- ---- writes

writes_step : (q : Question) (answer : Option (Answer q)) (log : List Answered) (before mid after : World)
    → Took q before mid (got answer)
    → Writes log mid.sink.written after.sink.written
    → Writes (answered q answer ∷ log) before.sink.written after.sink.written
writes_step (file name limit) answer log before mid after (new, is, read) rest =
    subst (λ (w : World). Writes log w.sink.written after.sink.written) is rest
writes_step (judge name alg message signature) answer log before mid after (new, is, asked) rest =
    subst (λ (w : World). Writes log w.sink.written after.sink.written) is rest
writes_step (sign name message) answer log before mid after (new, is, asked) rest =
    subst (λ (w : World). Writes log w.sink.written after.sink.written) is rest
writes_step time answer log before mid after (new, is, told) rest =
    subst (λ (w : World). Writes log w.sink.written after.sink.written) is rest
writes_step (write text) (Some written) log before mid after (new, is, taken) rest =
    subst (λ (t : Option (List ℕ)). Writes log t after.sink.written) (ap (λ (w : World). w.sink.written) is
    ∙ taken.taken) rest
writes_step (write text) None log before mid after (new, is, taken) rest = (
  taken.taken.0,
  omega (arith, taken.taken.1),
  subst (λ (t : Option (List ℕ)). Writes log t after.sink.written) (ap (λ (w : World). w.sink.written) is
      ∙ taken.taken.2) rest,
)

-- ---- moments

moments_none : (old new : Option (List ℕ)) → new ≡ old → old ≡ option_map (λ later. [] ++ later) new
moments_none None None same = refl
moments_none None (Some later) same = absurd (cc)
moments_none (Some told) None same = absurd (cc)
moments_none (Some told) (Some later) same = sym same

moments_then : (old mid new : Option (List ℕ)) (first second : List ℕ)
    → old ≡ option_map (λ later. first ++ later) mid → mid ≡ option_map (λ later. second ++ later) new
    → old ≡ option_map (λ later. (first ++ second) ++ later) new
moments_then old mid None first second one two =
    one ∙ ap (option_map (λ (later : List ℕ). first ++ later)) two
moments_then old mid (Some told) first second one two =
    one ∙ ap (option_map (λ (later : List ℕ). first ++ later)) two
    ∙ ap (λ (l : List ℕ). Some l) (sym (append_assoc first second told))

took_moments : (q : Question) (before mid : World) (answer : Option (Answer q))
    → Took q before mid (got answer)
    → before.clock.moments ≡ option_map (λ later. moment_of q answer ++ later) mid.clock.moments
took_moments (file name limit) before mid answer (new, is, read) =
    moments_none _ _ (ap (λ (w : World). w.clock.moments) is)
took_moments (judge name alg message signature) before mid answer (new, is, asked) =
    moments_none _ _ (ap (λ (w : World). w.clock.moments) is)
took_moments (sign name message) before mid answer (new, is, asked) =
    moments_none _ _ (ap (λ (w : World). w.clock.moments) is)
took_moments time before mid (Some moment) (new, is, told) =
    told.first ∙ ap (λ (w : World). option_map (λ later. moment ∷ later) w.clock.moments) (sym is)
took_moments time before mid None (new, is, told) =
    moments_none _ _ (ap (λ (w : World). w.clock.moments) is ∙ told.first)
took_moments (write text) before mid answer (new, is, taken) =
    moments_none _ _ (ap (λ (w : World). w.clock.moments) is)

moments_step : (q : Question) (answer : Option (Answer q)) (log : List Answered) (before mid after : World)
    → Took q before mid (got answer)
    → mid.clock.moments ≡ option_map (λ later. moments_in log ++ later) after.clock.moments
    → before.clock.moments
    ≡ option_map (λ later. moments_in (answered q answer ∷ log) ++ later) after.clock.moments
moments_step q answer log before mid after took rest =
    moments_then _ _ _ (moment_of q answer) (moments_in log) (took_moments q before mid answer took) rest

-- ---- what never changes

same_pieces : (q : Question) (before mid : World) (answer : Given (Answer q)) → Took q before mid answer
    → mid.sink.empty_pieces ≡ before.sink.empty_pieces
same_pieces (file name limit) before mid answer (new, is, read) = ap (λ (w : World). w.sink.empty_pieces) is
same_pieces (judge name alg message signature) before mid answer (new, is, asked) =
    ap (λ (w : World). w.sink.empty_pieces) is
same_pieces (sign name message) before mid answer (new, is, asked) =
    ap (λ (w : World). w.sink.empty_pieces) is
same_pieces time before mid answer (new, is, told) = ap (λ (w : World). w.sink.empty_pieces) is
same_pieces (write text) before mid answer (new, is, taken) = ap (λ (w : World). w.sink.empty_pieces) is
    ∙ taken.pieces

same_files : (q : Question) (before mid : World) (answer : Given (Answer q)) → Took q before mid answer
    → mid.store.files ≡ before.store.files
same_files (file name limit) before mid answer (new, is, read) = ap (λ (w : World). w.store.files) is
    ∙ read.same
same_files (judge name alg message signature) before mid answer (new, is, asked) =
    ap (λ (w : World). w.store.files) is
same_files (sign name message) before mid answer (new, is, asked) =
    ap (λ (w : World). w.store.files) is
same_files time before mid answer (new, is, told) = ap (λ (w : World). w.store.files) is
same_files (write text) before mid answer (new, is, taken) = ap (λ (w : World). w.store.files) is

-- ---- memory ran out in a call

record Left (q : Question) (before after : World) : Type 0 where
  log : List Answered
  is_last : (log ≡ []) ⊎ (log ≡ answered q None ∷ [])
  reads : after.store.reads ≡ option_map (λ told. told ++ reads_in log) before.store.reads
  writes : Writes log before.sink.written after.sink.written
  asked : Grew before.device.calls after.device.calls (calls log)
  moments : before.clock.moments ≡ option_map (λ later. moments_in log ++ later) after.clock.moments
  genuine : AreGenuine after.device.held after.device.judged (signatures log)

left_at : (name : List ℕ) (limit : ℕ) (before after : World) → after.sink.written ≡ before.sink.written
    → after.device.calls ≡ before.device.calls → after.clock.moments ≡ before.clock.moments
    → (after.store.reads ≡ before.store.reads)
    ⊎ (after.store.reads ≡ option_map (λ told. told ++ file_read name limit ∷ []) before.store.reads)
    → Left (file name limit) before after
left_at name limit before after same device clock (inl kept) = record {
  log = [];
  is_last = inl refl;
  reads = reads_none before.store.reads after.store.reads kept;
  writes = same;
  asked = grew_none _ _ device;
  moments = moments_none _ _ clock;
  genuine = tt;
}
left_at name limit before after same device clock (inr grew) = record {
  log = answered (file name limit) None ∷ [];
  is_last = inr refl;
  reads = grew;
  writes = same;
  asked = grew_none _ _ device;
  moments = moments_none _ _ clock;
  genuine = tt;
}

left : (q : Question) (before after : World) → Took q before after exhausted → Left q before after
left (file name limit) before after (new, is, read) =
    left_at name limit before after (ap (λ (w : World). w.sink.written) is)
    (ap (λ (w : World). w.device.calls) is) (ap (λ (w : World). w.clock.moments) is)
    (subst (λ (w : World). (w.store.reads ≡ before.store.reads)
    ⊎ (w.store.reads ≡ option_map (λ told. told ++ file_read name limit ∷ []) before.store.reads))
    (sym is) read.recorded)
left (judge name alg message signature) before after (new, is, asked) = record {
  log = answered (judge name alg message signature) None ∷ [];
  is_last = inr refl;
  reads = reads_none before.store.reads after.store.reads (ap (λ (w : World). w.store.reads) is);
  writes = ap (λ (w : World). w.sink.written) is;
  asked = calls_left (judge name alg message signature) before after (new, is, asked);
  moments = moments_none _ _ (ap (λ (w : World). w.clock.moments) is);
  genuine = genuine_none (judge name alg message signature) after.device.held after.device.judged;
}
left (sign name message) before after (new, is, asked) = record {
  log = answered (sign name message) None ∷ [];
  is_last = inr refl;
  reads = reads_none before.store.reads after.store.reads (ap (λ (w : World). w.store.reads) is);
  writes = ap (λ (w : World). w.sink.written) is;
  asked = calls_left (sign name message) before after (new, is, asked);
  moments = moments_none _ _ (ap (λ (w : World). w.clock.moments) is);
  genuine = genuine_none (sign name message) after.device.held after.device.judged;
}
left time before after (new, is, told) = record {
  log = [];
  is_last = inl refl;
  reads = reads_none before.store.reads after.store.reads (ap (λ (w : World). w.store.reads) is);
  writes = ap (λ (w : World). w.sink.written) is;
  asked = grew_none _ _ (ap (λ (w : World). w.device.calls) is);
  moments = moments_none _ _ (ap (λ (w : World). w.clock.moments) is ∙ told.first);
  genuine = tt;
}
left (write text) before after (new, is, taken) = record {
  log = [];
  is_last = inl refl;
  reads = reads_none before.store.reads after.store.reads (ap (λ (w : World). w.store.reads) is);
  writes = ap (λ (w : World). w.sink.written) is ∙ taken.taken;
  asked = grew_none _ _ (ap (λ (w : World). w.device.calls) is);
  moments = moments_none _ _ (ap (λ (w : World). w.clock.moments) is);
  genuine = tt;
}

-- ---- runs

pub asks_in_order : {R A : Type 0} → AsksInOrder R A
unfolding Runs Goes
asks_in_order (gives v) before after end run = record {
  log = [];
  goes = (refl, run.1);
  reads = reads_none _ _ (ap (λ (w : World). w.store.reads) run.0);
  writes = ap (λ (w : World). w.sink.written) run.0;
  pieces = ap (λ (w : World). w.sink.empty_pieces) run.0;
  files = ap (λ (w : World). w.store.files) run.0;
  calls = grew_none _ _ (ap (λ (w : World). w.device.calls) run.0);
  moments = moments_none _ _ (ap (λ (w : World). w.clock.moments) run.0);
  genuine = tt;
}
asks_in_order (stops refusal) before after end run = record {
  log = [];
  goes = (refl, run.1);
  reads = reads_none _ _ (ap (λ (w : World). w.store.reads) run.0);
  writes = ap (λ (w : World). w.sink.written) run.0;
  pieces = ap (λ (w : World). w.sink.empty_pieces) run.0;
  files = ap (λ (w : World). w.store.files) run.0;
  calls = grew_none _ _ (ap (λ (w : World). w.device.calls) run.0);
  moments = moments_none _ _ (ap (λ (w : World). w.clock.moments) run.0);
  genuine = tt;
}
asks_in_order (needs q next) before after end (inl (answer, mid, took, rest)) =
    let went = asks_in_order (next answer) mid after end rest in
    record {
      log = answered q (Some answer) ∷ went.log;
      goes = inl (answer, went.log, refl, went.goes);
      reads = reads_step q (Some answer) went.log before mid after took went.reads;
      writes = writes_step q (Some answer) went.log before mid after took went.writes;
      pieces = went.pieces ∙ same_pieces q before mid (gave answer) took;
      files = went.files ∙ same_files q before mid (gave answer) took;
      calls = calls_step q (Some answer) went.log before mid after took went.calls;
      moments = moments_step q (Some answer) went.log before mid after took went.moments;
      genuine = genuine_step q (Some answer) went.log before mid after took
          (held_stays (next answer) mid after end rest) (judged_only_adds (next answer) mid after end rest)
          went.genuine;
    }
asks_in_order (needs q next) before after end (inr (inl faulted)) = record {
  log = answered q None ∷ [];
  goes = inr (inl (refl, faulted.1));
  reads = reads_step q None [] before after after faulted.0 (reads_none _ _ refl);
  writes = writes_step q None [] before after after faulted.0 refl;
  pieces = same_pieces q before after failed faulted.0;
  files = same_files q before after failed faulted.0;
  calls = calls_step q None [] before after after faulted.0 (grew_none _ _ refl);
  moments = moments_step q None [] before after after faulted.0 (moments_none _ _ refl);
  genuine = genuine_none q after.device.held after.device.judged;
}
asks_in_order (needs q next) before after end (inr (inr (inl same, gives_up))) = record {
  log = [];
  goes = inr (inr (inl refl, gives_up));
  reads = reads_none _ _ (ap (λ (w : World). w.store.reads) same);
  writes = ap (λ (w : World). w.sink.written) same;
  pieces = ap (λ (w : World). w.sink.empty_pieces) same;
  files = ap (λ (w : World). w.store.files) same;
  calls = grew_none _ _ (ap (λ (w : World). w.device.calls) same);
  moments = moments_none _ _ (ap (λ (w : World). w.clock.moments) same);
  genuine = tt;
}
asks_in_order (needs q next) before after end (inr (inr (inr took, gives_up))) =
    let last = left q before after took in
    record {
      log = last.log;
      goes = inr (inr (last.is_last, gives_up));
      reads = last.reads;
      writes = last.writes;
      pieces = same_pieces q before after exhausted took;
      files = same_files q before after exhausted took;
      calls = last.asked;
      moments = last.moments;
      genuine = last.genuine;
    }
asks_in_order (tries q next) before after end (inl (answer, mid, took, rest)) =
    let went = asks_in_order (next answer) mid after end rest in
    record {
      log = answered q answer ∷ went.log;
      goes = inl (answer, went.log, refl, went.goes);
      reads = reads_step q answer went.log before mid after took went.reads;
      writes = writes_step q answer went.log before mid after took went.writes;
      pieces = went.pieces ∙ same_pieces q before mid (got answer) took;
      files = went.files ∙ same_files q before mid (got answer) took;
      calls = calls_step q answer went.log before mid after took went.calls;
      moments = moments_step q answer went.log before mid after took went.moments;
      genuine = genuine_step q answer went.log before mid after took
          (held_stays (next answer) mid after end rest) (judged_only_adds (next answer) mid after end rest)
          went.genuine;
    }
asks_in_order (tries q next) before after end (inr (inl same, gives_up)) = record {
  log = [];
  goes = inr (inl refl, gives_up);
  reads = reads_none _ _ (ap (λ (w : World). w.store.reads) same);
  writes = ap (λ (w : World). w.sink.written) same;
  pieces = ap (λ (w : World). w.sink.empty_pieces) same;
  files = ap (λ (w : World). w.store.files) same;
  calls = grew_none _ _ (ap (λ (w : World). w.device.calls) same);
  moments = moments_none _ _ (ap (λ (w : World). w.clock.moments) same);
  genuine = tt;
}
asks_in_order (tries q next) before after end (inr (inr took, gives_up)) =
    let last = left q before after took in
    record {
      log = last.log;
      goes = inr (last.is_last, gives_up);
      reads = last.reads;
      writes = last.writes;
      pieces = same_pieces q before after exhausted took;
      files = same_files q before after exhausted took;
      calls = last.asked;
      moments = last.moments;
      genuine = last.genuine;
    }

-- The laws of the end of a program.
use Rattle.std.proofs.Common.{◌≡◌, ◌≤◌, ◌++◌, ◌∙◌, inl, inr, true, ℕ, List, [], ◌∷◌, Option, None, Some, refl}
use Rattle.std.proofs.Common.{sym, ap, subst, option_map, arith}
use Rattle.std.specs.Prelude.{◌≢◌, ◌⊎◌, IfSome, IsSomeAnd}
use Rattle.outside.specs.Faults.{Rose}
use Rattle.outside.specs.Calls.{gave}
use Rattle.outside.specs.Sink.{SinkState, IsWritten, written}
use Rattle.outside.specs.declared.status.Status.{Status}
use Rattle.outside.specs.declared.status.Status.TheVariants.{Usage, WriteFault, NoMemory}
use Rattle.key_device.specs.Calls.{Judges, Grew}
use Rattle.key_device.specs.Device.{OnlyAdds}
use Rattle.program_steps.specs.Ends.{Ends, IsOwn, Closes}
use Rattle.program_steps.specs.Laws as laws
use Rattle.program_steps.specs.Laws.{IsCaused, owed, Completes}
use Rattle.program_steps.specs.Outcome.{Outcome, usage, fault_line, fault_status}
use Rattle.program_steps.specs.Own.{is_own}
use Rattle.runs.specs.Asked.{moments_in}
use Rattle.runs.specs.Counts.{Counts, counts, Cause, Later, Insists}
use Rattle.runs.specs.Expected.{Sources, Tells, expected, NoneRose, clock_tells, AsksUntold}
use Rattle.runs.specs.Runs.{Ending, value, refused, fault, out_of_memory, Runs}
use Rattle.runs.specs.Signed.{signatures, AreGenuine, calls}
use Rattle.runs.specs.Tree.{Question, Tree}
use Rattle.runs.specs.World.{World}
use Rattle.runs.specs.declared.fault.Fault.{Fault}
use Rattle.runs.specs.declared.fault.Fault.TheVariants.{Read, Device, Clock, Write}
use Rattle.runs.proofs.AskedInOrder as asked
use Rattle.runs.proofs.CountLaws as runs
use Rattle.runs.proofs.CountLaws.{rose_on}
use Rattle.runs.proofs.ExpectedEnds as ends
use Rattle.runs.proofs.Signing as signing

-- ---- statuses

-- no fault has a status that a command chooses itself, or that of no command, or that of no memory
not_own : (f : Fault) → is_own (fault_status f) ≡ true → ⊥
not_own Read own = cc
not_own Device own = cc
not_own Clock own = cc
not_own Write own = cc

not_usage : (f : Fault) → fault_status f ≡ Usage → ⊥
not_usage Read is = cc
not_usage Device is = cc
not_usage Clock is = cc
not_usage Write is = cc

not_memory : (f : Fault) → fault_status f ≡ NoMemory → ⊥
not_memory Read is = cc
not_memory Device is = cc
not_memory Clock is = cc
not_memory Write is = cc

same_fault : (f g : Fault) → fault_status f ≡ fault_status g → f ≡ g
same_fault Read Read is = refl
same_fault Read Device is = absurd (cc)
same_fault Read Clock is = absurd (cc)
same_fault Read Write is = absurd (cc)
same_fault Device Read is = absurd (cc)
same_fault Device Device is = refl
same_fault Device Clock is = absurd (cc)
same_fault Device Write is = absurd (cc)
same_fault Clock Read is = absurd (cc)
same_fault Clock Device is = absurd (cc)
same_fault Clock Clock is = refl
same_fault Clock Write is = absurd (cc)
same_fault Write Read is = absurd (cc)
same_fault Write Device is = absurd (cc)
same_fault Write Clock is = absurd (cc)
same_fault Write Write is = refl

-- ---- the sink, as the end is written

ends_later : (o : Outcome) (old new : SinkState) (status : Status) → Ends o old new status
    → old.faults ≤ new.faults
ends_later o old new status (inl (taken, is)) = omega (arith, taken.counts)
ends_later o old new status (inr (taken, is)) = taken.counts.1

closes_later : (end : Ending Outcome Outcome) (old new : SinkState) (status : Status)
    → Closes end old new status → old.faults ≤ new.faults
closes_later (value o) old new status closes = ends_later _ old new status closes
closes_later (refused o) old new status closes = ends_later _ old new status closes
closes_later (fault f) old new status closes = ends_later _ old new status closes
closes_later out_of_memory old new status closes = rw closes.0 (omega arith)

sink_later : (mid later : World) → later ≡ record mid { sink = later.sink }
    → mid.sink.faults ≤ later.sink.faults → Later (counts mid) (counts later)
sink_later mid later is more =
    rw is (record { store = λ name. omega arith; device = omega arith; clock = omega arith; sink = more })

later_on : (before mid later : Counts) → Later before mid → Later mid later → Later before later
later_on before mid later one two = record {
  store = λ name.
      omega (arith, one.store name, two.store name);
  device = omega (arith, one.device, two.device);
  clock = omega (arith, one.clock, two.clock);
  sink = omega (arith, one.sink, two.sink);
}

ends_pieces : (o : Outcome) (old new : SinkState) (status : Status) → Ends o old new status
    → new.empty_pieces ≡ old.empty_pieces
ends_pieces o old new status (inl (taken, is)) = taken.pieces
ends_pieces o old new status (inr (taken, is)) = taken.pieces

closes_pieces : (end : Ending Outcome Outcome) (old new : SinkState) (status : Status)
    → Closes end old new status → new.empty_pieces ≡ old.empty_pieces
closes_pieces (value o) old new status closes = ends_pieces _ old new status closes
closes_pieces (refused o) old new status closes = ends_pieces _ old new status closes
closes_pieces (fault f) old new status closes = ends_pieces _ old new status closes
closes_pieces out_of_memory old new status closes = ap (λ (s : SinkState). s.empty_pieces) closes.0

-- ---- causes

-- the status is the owed one, or the sink failed
ends_cause : (o : Outcome) (old new : SinkState) (f : Fault) (T : Type 0) → Ends o old new (fault_status f)
    → (fault_status f ≡ o.status → T) → (f ≡ Write → Rose old.faults new.faults → T) → T
ends_cause o old new f T (inl (taken, is)) own sink = own is
ends_cause o old new f T (inr (taken, is)) own sink = sink (same_fault f Write is) taken.counts.0

since_first : (before mid later : Counts) (tree : Option (Tree Outcome Outcome)) (f : Fault)
    → Later before mid → f ≡ Write → Rose mid.sink later.sink
    → IsCaused tree before later f
since_first before mid later tree f on is rose = inr (is, omega (arith, on.sink, rose))

own_cause : (T : Type 0) (o : Outcome) (f : Fault) → is_own o.status ≡ true → fault_status f ≡ o.status → T
own_cause T o f own is = absurd (not_own f (subst (λ (s : Status). is_own s ≡ true) (sym is) own))

to_the_end : (t : Tree Outcome Outcome) (before mid later : Counts) (f : Fault) → Later mid later
    → Cause t before mid f → Cause t before later f
to_the_end t before mid later f on cause = record {
  question = cause.question;
  asked = cause.asked;
  object = cause.object;
  rose = rose_on cause.question before mid later cause.rose on;
}

closes_cause : (t : Tree Outcome Outcome) (before mid later : World) (end : Ending Outcome Outcome)
    (f : Fault) → Runs t before mid end → IsOwn end
    → later ≡ record mid { sink = later.sink } → Closes end mid.sink later.sink (fault_status f)
    → IsCaused (Some t) (counts before) (counts later) f
closes_cause t before mid later (value o) f run own is closes =
    ends_cause o mid.sink later.sink f _ closes (own_cause _ o f own) (since_first _ (counts mid) _ (Some t) f
    (runs.counts_never_fall t before mid _ run))
closes_cause t before mid later (refused o) f run own is closes =
    ends_cause o mid.sink later.sink f _ closes (own_cause _ o f own) (since_first _ (counts mid) _ (Some t) f
    (runs.counts_never_fall t before mid _ run))
closes_cause t before mid later (fault g) f run own is closes =
    ends_cause (fault_line g) mid.sink later.sink f _ closes
    (λ same. inl (to_the_end t _ (counts mid) _ f (sink_later mid later is
    (closes_later (fault g) _ _ _ closes))
    (subst (λ (h : Fault). Cause t (counts before) (counts mid) h) (sym (same_fault f g same))
    (runs.faults_have_causes t before mid g run))))
    (since_first _ (counts mid) _ (Some t) f (runs.counts_never_fall t before mid _ run))
closes_cause t before mid later out_of_memory f run own is closes = absurd (not_memory f closes.1)

pub statuses_have_causes : laws.StatusesHaveCauses
statuses_have_causes None before later f ran =
    ends_cause usage before.sink later.sink f _ ran.1 (λ is. absurd (not_usage f is)) (λ is rose.
    inr (is, rose))
statuses_have_causes (Some t) before later f (end, mid, run, own, is, closes) =
    closes_cause t before mid later end f run own is closes

-- ---- no command

ends_usage : (o : Outcome) (old new : SinkState) → Ends o old new Usage → Usage ≡ o.status
ends_usage o old new (inl (taken, is)) = is
ends_usage o old new (inr (taken, is)) = absurd (not_usage Write (sym is))

own_is_no_usage : (s : Status) → is_own s ≡ true → Usage ≡ s → ⊥
own_is_no_usage s own same =
    let own_usage : is_own Usage ≡ true = subst (λ (x : Status). is_own x ≡ true) (sym same) own in
    cc

closes_usage : (end : Ending Outcome Outcome) (old new : SinkState) → IsOwn end → Closes end old new Usage → ⊥
closes_usage (value o) old new own closes = own_is_no_usage o.status own (ends_usage o old new closes)
closes_usage (refused o) old new own closes = own_is_no_usage o.status own (ends_usage o old new closes)
closes_usage (fault f) old new own closes = not_usage f (sym (ends_usage _ old new closes))
closes_usage out_of_memory old new own closes = cc (closes.1)

pub usage_is_no_command : laws.UsageIsNoCommand
usage_is_no_command None before later ran = refl
usage_is_no_command (Some tree) before later (end, mid, run, own, is, closes) =
    absurd (closes_usage end mid.sink later.sink own closes)

usage_at : (old new : SinkState) (status : Status) → Ends usage old new status → status ≢ WriteFault
    → status ≡ Usage
usage_at old new status (inl (taken, is)) other = is
usage_at old new status (inr (taken, is)) other = absurd (other is)

pub no_command_is_usage : laws.NoCommandIsUsage
no_command_is_usage before later status ran other = usage_at before.sink later.sink status ran.1 other

pub no_command_asks_nothing : laws.NoCommandAsksNothing
no_command_asks_nothing before later status ran =
    (ap (λ (w : World). w.store) ran.0, ap (λ (w : World). w.device) ran.0, ap (λ (w : World). w.clock) ran.0)

-- ---- completeness

none_mid : (before mid later : Counts) (questions : List Question) → Later mid later
    → NoneRose before later questions → NoneRose before mid questions
none_mid before mid later [] on none = tt
none_mid before mid later (q ∷ questions) on none =
    (λ rose. none.0 (rose_on q before mid later rose on), none_mid before mid later questions on none.1)

written_whole : (o : Outcome) (mid later : World) (told : Sources) (status : Status)
    → later ≡ record mid { sink = later.sink } → IsWritten o.text mid.sink later.sink (gave written)
    → status ≡ o.status
    → Tells mid told → Completes later told o status
written_whole o mid later told status same taken is tells = record {
  status = is;
  text = taken.taken ∙ ap (option_map (λ (bytes : List ℕ). bytes ++ o.text)) tells.written;
  reads = ap (λ (w : World). w.store.reads) same ∙ tells.reads;
  moments = ap (λ (w : World). w.clock.moments) same ∙ tells.moments;
}

ends_whole : (o : Outcome) (mid later : World) (told : Sources) (status : Status)
    → later ≡ record mid { sink = later.sink } → Ends o mid.sink later.sink status
    → (Rose mid.sink.faults later.sink.faults → ⊥) → Tells mid told → Completes later told o status
ends_whole o mid later told status same (inl (taken, is)) none tells =
    written_whole o mid later told status same taken is tells
ends_whole o mid later told status same (inr (taken, is)) none tells = absurd (none taken.counts.0)

closes_whole : (end : Ending Outcome Outcome) (mid later : World) (told : Sources) (status : Status)
    → later ≡ record mid { sink = later.sink }
    → Closes end mid.sink later.sink status → (Rose mid.sink.faults later.sink.faults → ⊥) → status ≢ NoMemory
    → Tells mid told → Completes later told (owed end) status
closes_whole (value o) mid later told status same closes none memory tells =
    ends_whole o mid later told status same closes none tells
closes_whole (refused o) mid later told status same closes none memory tells =
    ends_whole o mid later told status same closes none tells
closes_whole (fault f) mid later told status same closes none memory tells =
    ends_whole _ mid later told status same closes none tells
closes_whole out_of_memory mid later told status same closes none memory tells = absurd (memory closes.1)

memory_is : (end : Ending Outcome Outcome) (old new : SinkState) (status : Status) → Closes end old new status
    → status ≢ NoMemory → end ≢ out_of_memory
memory_is (value o) old new status closes memory = λ is. absurd (cc)
memory_is (refused o) old new status closes memory = λ is. absurd (cc)
memory_is (fault f) old new status closes memory = λ is. absurd (cc)
memory_is out_of_memory old new status closes memory = λ is. memory closes.1

as_wanted : (wanted : Option (Ending Outcome Outcome)) (end : Ending Outcome Outcome) (mid later : World)
    (told : Sources) (status : Status)
    → IfSome wanted (λ w. (end ≡ w) × Tells mid told)
    → (Tells mid told → Completes later told (owed end) status)
    → IfSome wanted (λ w. Completes later told (owed w) status)
as_wanted None end mid later told status is completes = tt
as_wanted (Some w) end mid later told status is completes =
    subst (λ (e : Ending Outcome Outcome). Completes later told (owed e) status) is.0 (completes is.1)

pub ends_complete : laws.EndsComplete
ends_complete tree before later sources status (end, mid, run, own, is, closes) tells none sink memory =
    let on = sink_later mid later is (closes_later end mid.sink later.sink status closes) in
    let first = runs.counts_never_fall tree before mid end run in
    as_wanted (expected tree sources).end end mid later (expected tree sources).told status
    (ends.ends_as_expected tree before mid sources end run tells (none_mid _ (counts mid) _
    (expected tree sources).asked on none) (memory_is end mid.sink later.sink status closes memory))
    (closes_whole end mid later (expected tree sources).told status is closes (λ rose.
    sink (omega (arith, first.sink, rose))) memory)

ends_fault : (T : Type 0) (f : Fault) (old new : SinkState) (status : Status)
    → Ends (fault_line f) old new status → ((g : Fault) → status ≢ fault_status g) → T
ends_fault T f old new status (inl (taken, is)) other = absurd (other f is)
ends_fault T f old new status (inr (taken, is)) other = absurd (other Write is)

-- ---- whatever the counts are

told_at : (wanted : Option (Ending Outcome Outcome)) (end : Ending Outcome Outcome) (mid later : World)
    (told : Sources) (status : Status) (T : Type 0)
    → IsSomeAnd wanted (λ w. (end ≡ w) × Tells mid told) ⊎ T
    → (Tells mid told → Completes later told (owed end) status)
    → IsSomeAnd wanted (λ w. Completes later told (owed w) status) ⊎ T
told_at None end mid later told status T (inl is) completes = absurd is
told_at (Some w) end mid later told status T (inl is) completes =
    inl (subst (λ (e : Ending Outcome Outcome). Completes later told (owed e) status) is.0 (completes is.1))
told_at wanted end mid later told status T (inr asks) completes = inr asks

told_whole : (o : Outcome) (mid later : World) (told : Sources) (status : Status)
    → later ≡ record mid { sink = later.sink } → Ends o mid.sink later.sink status
    → ((f : Fault) → status ≢ fault_status f) → Tells mid told → Completes later told o status
told_whole o mid later told status same (inl (taken, is)) other tells =
    written_whole o mid later told status same taken is tells
told_whole o mid later told status same (inr (taken, is)) other tells = absurd (other Write is)

told_end : (t : Tree Outcome Outcome) (before mid later : World) (sources : Sources)
    (end : Ending Outcome Outcome)
    (status : Status)
    → Insists t → Runs t before mid end → later ≡ record mid { sink = later.sink }
    → Closes end mid.sink later.sink status → Tells before sources → ((f : Fault) → status ≢ fault_status f)
    → status ≢ NoMemory
    → IsSomeAnd (expected t sources).end (λ e. Completes later (expected t sources).told (owed e) status)
    ⊎ AsksUntold (clock_tells sources) (expected t sources).asked
told_end t before mid later sources (value o) status insists run is closes tells other memory =
    told_at (expected t sources).end (value o) mid later (expected t sources).told status _
    (ends.ends_as_told t before mid sources (value o) insists run tells tt
    (memory_is (value o) mid.sink later.sink status closes memory))
    (told_whole o mid later (expected t sources).told status is closes other)
told_end t before mid later sources (refused o) status insists run is closes tells other memory =
    told_at (expected t sources).end (refused o) mid later (expected t sources).told status _
    (ends.ends_as_told t before mid sources (refused o) insists run tells tt
    (memory_is (refused o) mid.sink later.sink status closes memory))
    (told_whole o mid later (expected t sources).told status is closes other)
told_end t before mid later sources (fault f) status insists run is closes tells other memory =
    ends_fault _ f mid.sink later.sink status closes other
told_end t before mid later sources out_of_memory status insists run is closes tells other memory =
    absurd (memory closes.1)

pub ends_as_told : laws.EndsAsTold
ends_as_told tree before later sources status insists (end, mid, run, own, is, closes) tells other memory =
    told_end tree before mid later sources end status insists run is closes tells other memory

-- ---- what was asked

ends_status : (o : Outcome) (old new : SinkState) (status : Status) → Ends o old new status
    → (status ≡ o.status) ⊎ (status ≡ WriteFault)
ends_status o old new status (inl (taken, is)) = inl is
ends_status o old new status (inr (taken, is)) = inr is

closes_status : (end : Ending Outcome Outcome) (old new : SinkState) (status : Status)
    → Closes end old new status → (status ≡ (owed end).status) ⊎ (status ≡ WriteFault)
closes_status (value o) old new status closes = ends_status _ old new status closes
closes_status (refused o) old new status closes = ends_status _ old new status closes
closes_status (fault f) old new status closes = ends_status _ old new status closes
closes_status out_of_memory old new status closes = inl closes.1

pub asks_in_order : laws.AsksInOrder
asks_in_order tree before later status (end, mid, run, own, is, closes) =
    let went = asked.asks_in_order tree before mid end run in
    record {
      end = end;
      log = went.log;
      goes = went.goes;
      ends = closes_status end mid.sink later.sink status closes;
      reads = ap (λ (w : World). w.store.reads) is ∙ went.reads;
      files = ap (λ (w : World). w.store.files) is ∙ went.files;
      pieces = closes_pieces end mid.sink later.sink status closes ∙ went.pieces;
      calls = subst (λ (w : World). Grew before.device.calls w.device.calls (calls went.log)) (sym is)
          went.calls;
      moments = went.moments ∙ ap (λ (w : World). option_map (λ later. moments_in went.log ++ later)
          w.clock.moments) (sym is);
      genuine = subst (λ (w : World). AreGenuine w.device.held w.device.judged (signatures went.log)) (sym is)
          went.genuine;
    }

-- ---- counts

pub counts_never_fall : laws.CountsNeverFall
counts_never_fall None before later status ran =
    sink_later before later ran.0 (ends_later usage before.sink later.sink status ran.1)
counts_never_fall (Some tree) before later status (end, mid, run, own, is, closes) =
    later_on _ (counts mid) _ (runs.counts_never_fall tree before mid end run) (sink_later mid later is
    (closes_later end mid.sink later.sink status closes))

ends_same : (o : Outcome) (old new : SinkState) (status : Status) → Ends o old new status
    → ((f : Fault) → status ≢ fault_status f) → new.faults ≡ old.faults
ends_same o old new status (inl (taken, is)) other = taken.counts
ends_same o old new status (inr (taken, is)) other = absurd (other Write is)

sink_same : (before mid later : World) → later ≡ record mid { sink = later.sink }
    → later.sink.faults ≡ mid.sink.faults → counts mid ≡ counts before → counts later ≡ counts before
sink_same before mid later is sink rest = ap counts is ∙ ap (λ (n : ℕ). record (counts mid) { sink = n }) sink
    ∙ rest

closes_same : (t : Tree Outcome Outcome) (before mid later : World) (end : Ending Outcome Outcome)
    (status : Status)
    → Insists t → Runs t before mid end → later ≡ record mid { sink = later.sink }
    → Closes end mid.sink later.sink status
    → ((f : Fault) → status ≢ fault_status f) → counts later ≡ counts before
closes_same t before mid later (value o) status insists run is closes other =
    sink_same before mid later is (ends_same o _ _ status closes other)
    (runs.counts_stay t before mid _ insists run tt)
closes_same t before mid later (refused o) status insists run is closes other =
    sink_same before mid later is (ends_same o _ _ status closes other)
    (runs.counts_stay t before mid _ insists run tt)
closes_same t before mid later (fault f) status insists run is closes other =
    ends_fault _ f mid.sink later.sink status closes other
closes_same t before mid later out_of_memory status insists run is closes other =
    sink_same before mid later is (ap (λ (s : SinkState). s.faults) closes.0)
    (runs.counts_stay t before mid _ insists run tt)

pub counts_stay : laws.CountsStay
counts_stay tree before later status insists (end, mid, run, own, is, closes) other =
    closes_same tree before mid later end status insists run is closes other

-- ---- keys

pub held_stays : laws.HeldStays
held_stays None before later status ran = ap (λ (w : World). w.device.held) ran.0
held_stays (Some tree) before later status (end, mid, run, own, is, closes) =
    ap (λ (w : World). w.device.held) is ∙ signing.held_stays tree before mid end run

adds_same : (before : Judges) → OnlyAdds before before
adds_same before = λ name alg message signature was. was

pub judged_only_adds : laws.JudgedOnlyAdds
judged_only_adds None before later status ran =
    subst (λ (w : World). OnlyAdds before.device.judged w.device.judged) (sym ran.0)
    (adds_same before.device.judged)
judged_only_adds (Some tree) before later status (end, mid, run, own, is, closes) =
    subst (λ (w : World). OnlyAdds before.device.judged w.device.judged) (sym is)
    (signing.judged_only_adds tree before mid end run)

-- What a run leaves of a device, and that what it signed is judged yes.
use Rattle.std.proofs.Common.{◌≡◌, ◌∙◌, ◌++◌, inl, inr, ℕ, List, [], ◌∷◌, Option, Some, None, IsSomeAnd}
use Rattle.std.proofs.Common.{option_map, append-nil, append_assoc, sym, ap, subst}
use Rattle.claim_tree.specs.declared.algorithm.SignAlg.{SignAlg}
use Rattle.outside.specs.Calls.{Given, gave, failed, exhausted}
use Rattle.key_device.specs.Calls.{Call, Held, Judges, Grew}
use Rattle.key_device.specs.Device.{IsYes, IsGenuine, OnlyAdds}
use Rattle.runs.specs.Asked.{Answered, answered}
use Rattle.runs.specs.Runs.{Runs}
use Rattle.runs.specs.Signed.{Signature, signature_of, signatures, AreGenuine, call_of, calls, HeldStays}
use Rattle.runs.specs.Signed.{JudgedOnlyAdds}
use Rattle.runs.specs.Tree.{Question, file, judge, sign, time, write, Answer, gives, stops, needs, tries}
use Rattle.runs.specs.World.{World, Took, got}

-- ---- what is held

pub took_held : (q : Question) (before mid : World) (answer : Given (Answer q)) → Took q before mid answer
    → mid.device.held ≡ before.device.held
took_held (file name limit) before mid answer (new, is, read) = ap (λ (w : World). w.device.held) is
took_held (judge name alg message signature) before mid answer (new, is, judged) =
    ap (λ (w : World). w.device.held) is ∙ judged.held
took_held (sign name message) before mid answer (new, is, signed) =
    ap (λ (w : World). w.device.held) is ∙ signed.held
took_held time before mid answer (new, is, told) = ap (λ (w : World). w.device.held) is
took_held (write text) before mid answer (new, is, taken) = ap (λ (w : World). w.device.held) is

pub held_stays : {R A : Type 0} → HeldStays R A
unfolding Runs
held_stays (gives v) before after end run = ap (λ (w : World). w.device.held) run.0
held_stays (stops refusal) before after end run = ap (λ (w : World). w.device.held) run.0
held_stays (needs q next) before after end (inl (answer, mid, took, rest)) =
    held_stays (next answer) mid after end rest ∙ took_held q before mid (gave answer) took
held_stays (needs q next) before after end (inr (inl faulted)) = took_held q before after failed faulted.0
held_stays (needs q next) before after end (inr (inr (inl same, gives_up))) =
    ap (λ (w : World). w.device.held) same
held_stays (needs q next) before after end (inr (inr (inr took, gives_up))) =
    took_held q before after exhausted took
held_stays (tries q next) before after end (inl (answer, mid, took, rest)) =
    held_stays (next answer) mid after end rest ∙ took_held q before mid (got answer) took
held_stays (tries q next) before after end (inr (inl same, gives_up)) = ap (λ (w : World). w.device.held) same
held_stays (tries q next) before after end (inr (inr took, gives_up)) =
    took_held q before after exhausted took

-- ---- what is judged yes

adds_same : (before later : Judges) → later ≡ before → OnlyAdds before later
adds_same before later same = λ name alg message signature was.
    ap (λ (f : Judges). f name alg message signature) same ∙ was

adds_then : (before mid later : Judges) → OnlyAdds before mid → OnlyAdds mid later → OnlyAdds before later
adds_then before mid later one two = λ name alg message signature was.
    two name alg message signature (one name alg message signature was)

took_adds : (q : Question) (before mid : World) (answer : Given (Answer q)) → Took q before mid answer
    → OnlyAdds before.device.judged mid.device.judged
took_adds (file name limit) before mid answer (new, is, read) =
    adds_same _ _ (ap (λ (w : World). w.device.judged) is)
took_adds (judge name alg message signature) before mid answer (new, is, judged) =
    adds_same _ _ (ap (λ (w : World). w.device.judged) is ∙ judged.judged)
took_adds (sign name message) before mid answer (new, is, signed) =
    subst (λ (w : World). OnlyAdds before.device.judged w.device.judged) (sym is) signed.kept
took_adds time before mid answer (new, is, told) =
    adds_same _ _ (ap (λ (w : World). w.device.judged) is)
took_adds (write text) before mid answer (new, is, taken) =
    adds_same _ _ (ap (λ (w : World). w.device.judged) is)

pub judged_only_adds : {R A : Type 0} → JudgedOnlyAdds R A
unfolding Runs
judged_only_adds (gives v) before after end run = adds_same _ _ (ap (λ (w : World). w.device.judged) run.0)
judged_only_adds (stops refusal) before after end run =
    adds_same _ _ (ap (λ (w : World). w.device.judged) run.0)
judged_only_adds (needs q next) before after end (inl (answer, mid, took, rest)) =
    adds_then _ _ _ (took_adds q before mid (gave answer) took)
    (judged_only_adds (next answer) mid after end rest)
judged_only_adds (needs q next) before after end (inr (inl faulted)) =
    took_adds q before after failed faulted.0
judged_only_adds (needs q next) before after end (inr (inr (inl same, gives_up))) =
    adds_same _ _ (ap (λ (w : World). w.device.judged) same)
judged_only_adds (needs q next) before after end (inr (inr (inr took, gives_up))) =
    took_adds q before after exhausted took
judged_only_adds (tries q next) before after end (inl (answer, mid, took, rest)) =
    adds_then _ _ _ (took_adds q before mid (got answer) took)
    (judged_only_adds (next answer) mid after end rest)
judged_only_adds (tries q next) before after end (inr (inl same, gives_up)) =
    adds_same _ _ (ap (λ (w : World). w.device.judged) same)
judged_only_adds (tries q next) before after end (inr (inr took, gives_up)) =
    took_adds q before after exhausted took

-- ---- the record of calls

pub grew_none : (old new : Option (List Call)) → new ≡ old → Grew old new []
grew_none old None same = tt
grew_none old (Some told) same =
    ap (option_map (λ earlier. earlier ++ [])) (sym same) ∙ ap (λ (l : List Call). Some l) (append-nil told)

grew_then : (old mid new : Option (List Call)) (first second : List Call) → Grew old mid first
    → Grew mid new second → Grew old new (first ++ second)
grew_then old mid None first second one two = tt
grew_then old None (Some told) first second one two = absurd (cc)
grew_then None (Some between) (Some told) first second one two = absurd (cc)
grew_then (Some earlier) (Some between) (Some told) first second one two =
    ap (λ (l : List Call). Some l) (sym (append_assoc earlier first second))
    ∙ ap (option_map (λ l. l ++ second)) one ∙ two

abbrev said : {A : Type 0} → Given A → Option A
said (gave answer) = Some answer
said failed = None
said exhausted = None

took_grew : (q : Question) (before mid : World) (answer : Given (Answer q)) → Took q before mid answer
    → Grew before.device.calls mid.device.calls (call_of q (said answer))
took_grew (file name limit) before mid answer (new, is, read) =
    grew_none _ _ (ap (λ (w : World). w.device.calls) is)
took_grew (judge name alg message signature) before mid answer (new, is, judged) =
    subst (λ (w : World). Grew before.device.calls w.device.calls
    (call_of (judge name alg message signature) (said answer))) (sym is) judged.asked
took_grew (sign name message) before mid (gave s) (new, is, signed) =
    subst (λ (w : World). Grew before.device.calls w.device.calls (call_of (sign name message) (Some s)))
    (sym is) signed.asked
took_grew (sign name message) before mid failed (new, is, signed) =
    subst (λ (w : World). Grew before.device.calls w.device.calls (call_of (sign name message) None))
    (sym is) signed.asked
took_grew (sign name message) before mid exhausted (new, is, signed) =
    subst (λ (w : World). Grew before.device.calls w.device.calls (call_of (sign name message) None))
    (sym is) signed.asked
took_grew time before mid answer (new, is, told) =
    grew_none _ _ (ap (λ (w : World). w.device.calls) is)
took_grew (write text) before mid answer (new, is, taken) =
    grew_none _ _ (ap (λ (w : World). w.device.calls) is)

pub calls_step : (q : Question) (answer : Option (Answer q)) (log : List Answered) (before mid after : World)
    → Took q before mid (got answer) → Grew mid.device.calls after.device.calls (calls log)
    → Grew before.device.calls after.device.calls (calls (answered q answer ∷ log))
calls_step q (Some answer) log before mid after took rest =
    grew_then _ _ _ (call_of q (Some answer)) (calls log) (took_grew q before mid (gave answer) took) rest
calls_step q None log before mid after took rest =
    grew_then _ _ _ (call_of q None) (calls log) (took_grew q before mid failed took) rest

-- memory ran out in the call
pub calls_left : (q : Question) (before after : World) → Took q before after exhausted
    → Grew before.device.calls after.device.calls (calls (answered q None ∷ []))
calls_left q before after took = subst (λ (l : List Call). Grew before.device.calls after.device.calls l)
    (sym (append-nil (call_of q None))) (took_grew q before after exhausted took)

-- ---- signatures

still_at : (before after : Judges) (o : Option SignAlg) (name message bytes : List ℕ) → OnlyAdds before after
    → IsSomeAnd o (λ alg. IsYes before name alg message bytes)
    → IsSomeAnd o (λ alg. IsYes after name alg message bytes)
still_at before after None name message bytes adds was = absurd was
still_at before after (Some alg) name message bytes adds was =
    record { in_jws = adds _ _ _ _ was.in_jws; in_cose = adds _ _ _ _ was.in_cose }

-- what was genuine still is
pub still_genuine : (held later : Held) (before after : Judges) (name message bytes : List ℕ) → later ≡ held
    → OnlyAdds before after → IsGenuine held before name message bytes
    → IsGenuine later after name message bytes
still_genuine held later before after name message bytes same adds was =
    subst (λ (h : Held). IsGenuine h after name message bytes) (sym same)
    (still_at before after (held name) name message bytes adds was)

-- a signature that was given is judged yes by the device as it is left
genuine_at : (q : Question) (before mid after : World) (answer : Option (Answer q))
    → Took q before mid (got answer) → after.device.held ≡ before.device.held
    → OnlyAdds mid.device.judged after.device.judged
    → AreGenuine after.device.held after.device.judged (signature_of q answer)
genuine_at (file name limit) before mid after answer took held adds = tt
genuine_at (judge name alg message signature) before mid after answer took held adds = tt
genuine_at (sign name message) before mid after None took held adds = tt
genuine_at (sign name message) before mid after (Some bytes) (new, is, signed) held adds = (
  still_genuine before.device.held after.device.held new.judged after.device.judged name message bytes held
      (subst (λ (w : World). OnlyAdds w.device.judged after.device.judged) is adds) signed.signed,
  tt,
)
genuine_at time before mid after answer took held adds = tt
genuine_at (write text) before mid after answer took held adds = tt

pub all_genuine : (held : Held) (judged : Judges) (first second : List Signature)
    → AreGenuine held judged first → AreGenuine held judged second
    → AreGenuine held judged (first ++ second)
all_genuine held judged [] second one two = two
all_genuine held judged (s ∷ ss) second one two = (one.0, all_genuine held judged ss second one.1 two)

pub genuine_step : (q : Question) (answer : Option (Answer q)) (log : List Answered)
    (before mid after : World) → Took q before mid (got answer) → after.device.held ≡ mid.device.held
    → OnlyAdds mid.device.judged after.device.judged
    → AreGenuine after.device.held after.device.judged (signatures log)
    → AreGenuine after.device.held after.device.judged (signatures (answered q answer ∷ log))
genuine_step q answer log before mid after took held adds rest =
    all_genuine _ _ (signature_of q answer) (signatures log)
    (genuine_at q before mid after answer took (held ∙ took_held q before mid (got answer) took) adds) rest

-- the object gave no answer
pub genuine_none : (q : Question) (held : Held) (judged : Judges)
    → AreGenuine held judged (signatures (answered q None ∷ []))
genuine_none (file name limit) held judged = tt
genuine_none (judge name alg message signature) held judged = tt
genuine_none (sign name message) held judged = tt
genuine_none time held judged = tt
genuine_none (write text) held judged = tt

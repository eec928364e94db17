-- What a device in memory is after a call.
use Rattle.std.proofs.Common.{◌≡◌, ◌≤◌, ◌∙◌, ℕ, List, Bool, true, false, ◌||◌, Option, Some, None, IsSome}
use Rattle.std.proofs.Common.{refl, IsSomeAnd, sym, ap, subst, arith, if◌then◌else◌}
use Rattle.std.specs.Prelude.{Vec}
use Rattle.std.specs.declared.alloc.Global.{Global}
use Rattle.outside.specs.Faults.{Rose, next}
use Rattle.claim_tree.specs.declared.algorithm.SignAlg.{SignAlg}
use Rattle.key_device.specs.Calls.{Call, Held, Judges, Tells}
use Rattle.key_device.specs.Device.{IsGenuine, OnlyAdds}
use Rattle.key_device.specs.code.MemoryDevice.{calls_in, is_allowed}
use Rattle.key_device.specs.declared.allowed.Allowed.{Allowed}
use Rattle.key_device.specs.declared.asked.Asked.{Asked}

pub tells_from : (old mid new : Option (Vec Asked Global)) (wanted told : Call) → mid ≡ old → told ≡ wanted
    → Tells (calls_in mid) (calls_in new) told → Tells (calls_in old) (calls_in new) wanted
tells_from old mid new wanted told same is tells = rw (sym same, sym is) tells

-- ---- the count

pub rose_from : (old mid new : ℕ) (fails : Bool) → fails ≡ true → mid ≡ (if fails then next old else old)
    → old ≤ mid → new ≡ mid → Rose old new × (old ≤ new)
rose_from old mid new fails is counted later same =
    let e : new ≡ next old = same ∙ counted ∙ ap (λ (b : Bool). if b then next old else old) is in
    (subst (λ (n : ℕ). next old ≤ n) (sym e) (omega arith), omega (arith, later, same))

pub same_from : (old mid new : ℕ) (fails : Bool) → fails ≡ false → mid ≡ (if fails then next old else old)
    → new ≡ mid → new ≡ old
same_from old mid new fails is counted same = same ∙ counted
    ∙ ap (λ (b : Bool). if b then next old else old) is

-- ---- what is judged yes

pub still_true : (a b : Bool) → a ≡ true → (a || b) ≡ true
still_true true b is = refl
still_true false b is = absurd (cc is)

pub now_true : (a b : Bool) → b ≡ true → (a || b) ≡ true
now_true true b is = refl
now_true false b is = is

abbrev pub judges_of : List Allowed → Judges
judges_of allowed name alg message signature = is_allowed allowed name message signature

pub adds_from : (old mid given new : List Allowed) → mid ≡ old → new ≡ given
    → ((n m s : List ℕ) → is_allowed mid n m s ≡ true → is_allowed given n m s ≡ true)
    → OnlyAdds (judges_of old) (judges_of new)
adds_from old mid given new one two kept = λ n alg m s was. rw two (kept n m s (rw one was))

genuine_of : (held : Option SignAlg) (P : SignAlg → Type 0) → IsSome held → ((alg : SignAlg) → P alg)
    → IsSomeAnd held P
genuine_of None P held all = absurd (cc held)
genuine_of (Some alg) P held all = all alg

pub genuine_from : (held : Held) (given new : List Allowed) (name message signature : List ℕ)
    → IsSome (held name) → new ≡ given → is_allowed given name message signature ≡ true
    → IsGenuine held (judges_of new) name message signature
genuine_from held given new name message signature known same allowed =
    let on : is_allowed new name message signature ≡ true = rw same allowed in
    genuine_of (held name) _ known (λ alg. record { in_jws = on; in_cose = on })

pub verdict_from : (answer result : Bool) (told listed old : List Allowed)
    (name text message signature : List ℕ)
    → result ≡ answer → result ≡ is_allowed listed text message signature → listed ≡ told → told ≡ old
    → text ≡ name → answer ≡ is_allowed old name message signature
verdict_from answer result told listed old name text message signature is judged one two three =
    sym is ∙ judged ∙ ap (λ (l : List Allowed). is_allowed l text message signature) (one ∙ two)
    ∙ ap (λ (n : List ℕ). is_allowed old n message signature) three

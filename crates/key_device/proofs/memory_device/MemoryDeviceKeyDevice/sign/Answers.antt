use Rattle.std.proofs.Common.{◌∙◌, ℕ, List, Some, None, sym, ap, ap₂}
use Rattle.key_device.specs.Calls.{signs}
use Rattle.key_device.specs.code.MemoryDevice.{held_in, is_allowed}
use Rattle.key_device.specs.declared.allowed.Allowed.{Allowed}
use Rattle.key_device.specs.declared.memory_device.MemoryDevice.{MemoryDevice}
use Rattle.key_device.proofs.Records.{tells_from, rose_from, same_from, adds_from, genuine_from, still_true}
use Rattle.key_device.proofs.memory_device.MemoryDeviceKeyDevice.sign.Goals as goal

pub returns-then-fails-clause-signed : goal.returns-then-fails-clause-signed
returns-then-fails-clause-signed c =
    let rest = c.tell.ensures.rest in
    let first = c.fails.ensures.rest in
    record {
      held = ap (λ (d : MemoryDevice). held_in d.names.items) rest
          ∙ ap (λ (d : MemoryDevice). held_in d.names.items) first;
      kept = adds_from _ _ _ _ (ap (λ (d : MemoryDevice). d.allowed.items) first)
          (ap (λ (d : MemoryDevice). d.allowed.items) rest) (λ n m s was. was);
      signed = tt;
      asked = tells_from _ _ _ _ _ (ap (λ (d : MemoryDevice). d.asked) first)
          (ap (λ (n : List ℕ). signs n c.args.message.now None) c.text.ensures)
          (c.tell.ensures.told (signs c.text.result.now c.args.message.now None) c.signing.ensures);
      counts = rose_from _ _ _ _ (sym c.fails.ensures.fails ∙ c.if-fails.true) c.fails.ensures.faults
          c.fails.ensures.later (ap (λ (d : MemoryDevice). d.faults) rest);
    }

pub returns-in-Ok-clause-signed : goal.returns-in-Ok-clause-signed
returns-in-Ok-clause-signed c =
    let rest = c.tell-in-Ok.ensures.rest in
    let give = c.give.ensures.rest in
    let first = c.fails.ensures.rest in
    record {
      held = ap (λ (d : MemoryDevice). held_in d.names.items) rest
          ∙ ap (λ (d : MemoryDevice). held_in d.names.items) give
          ∙ ap (λ (d : MemoryDevice). held_in d.names.items) first;
      kept = adds_from _ _ _ _ (ap (λ (d : MemoryDevice). d.allowed.items) first)
          (ap (λ (d : MemoryDevice). d.allowed.items) rest)
          (λ n m s was. c.in-Ok.ensures.allowed n m s ∙ still_true _ _ was);
      signed = genuine_from (held_in c.args.self.now.names.items) _ _ _ _ _ c.requires
          (ap (λ (d : MemoryDevice). d.allowed.items) rest) c.in-Ok.ensures.genuine;
      asked = tells_from _ _ _ _ _
          (ap (λ (d : MemoryDevice). d.asked) give ∙ ap (λ (d : MemoryDevice). d.asked) first)
          (ap₂ (λ (n s : List ℕ). signs n c.args.message.now (Some s)) c.text-in-Ok.ensures
          c.as_slice.ensures.value)
          (c.tell-in-Ok.ensures.told
          (signs c.text-in-Ok.result.now c.args.message.now (Some c.as_slice.result.now))
          c.signing-in-Ok.ensures);
      counts = same_from _ _ _ _ (sym c.fails.ensures.fails ∙ c.if-fails.false) c.fails.ensures.faults
          (ap (λ (d : MemoryDevice). d.faults) rest ∙ ap (λ (d : MemoryDevice). d.faults) give);
    }

pub returns-in-Err-clause-signed : goal.returns-in-Err-clause-signed
returns-in-Err-clause-signed c =
    let rest = c.tell-in-Err.ensures.rest in
    let give = c.give.ensures.rest in
    let first = c.fails.ensures.rest in
    record {
      held = ap (λ (d : MemoryDevice). held_in d.names.items) rest
          ∙ ap (λ (d : MemoryDevice). held_in d.names.items) give
          ∙ ap (λ (d : MemoryDevice). held_in d.names.items) first;
      kept = adds_from _ _ _ _ (ap (λ (d : MemoryDevice). d.allowed.items) first)
          (ap (λ (d : MemoryDevice). d.allowed.items) rest)
          (λ n m s was. ap (λ (l : List Allowed). is_allowed l n m s) c.in-Err.ensures.unchanged ∙ was);
      signed = tt;
      asked = tells_from _ _ _ _ _
          (ap (λ (d : MemoryDevice). d.asked) give ∙ ap (λ (d : MemoryDevice). d.asked) first)
          (ap (λ (n : List ℕ). signs n c.args.message.now None) c.text-in-Err.ensures)
          (c.tell-in-Err.ensures.told (signs c.text-in-Err.result.now c.args.message.now None)
          c.signing-in-Err.ensures);
      counts = same_from _ _ _ _ (sym c.fails.ensures.fails ∙ c.if-fails.false) c.fails.ensures.faults
          (ap (λ (d : MemoryDevice). d.faults) rest ∙ ap (λ (d : MemoryDevice). d.faults) give);
    }

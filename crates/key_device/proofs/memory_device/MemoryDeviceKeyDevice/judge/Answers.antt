use Rattle.std.proofs.Common.{◌∙◌, ℕ, List, sym, ap}
use Rattle.claim_tree.specs.Credential.{named}
use Rattle.key_device.specs.Calls.{judges}
use Rattle.key_device.specs.code.MemoryDevice.{held_in, is_allowed}
use Rattle.key_device.specs.declared.memory_device.MemoryDevice.{MemoryDevice}
use Rattle.key_device.proofs.Records.{tells_from, rose_from, same_from, verdict_from}
use Rattle.key_device.proofs.memory_device.MemoryDeviceKeyDevice.judge.Goals as goal

pub returns-then-fails-clause-judged : goal.returns-then-fails-clause-judged
returns-then-fails-clause-judged c =
    let rest = c.tell.ensures.rest in
    let first = c.fails-fails.ensures.rest in
    record {
      held = ap (λ (d : MemoryDevice). held_in d.names.items) rest
          ∙ ap (λ (d : MemoryDevice). held_in d.names.items) first;
      judged = ap (λ (d : MemoryDevice). λ n a m s. is_allowed d.allowed.items n m s) rest
          ∙ ap (λ (d : MemoryDevice). λ n a m s. is_allowed d.allowed.items n m s) first;
      verdict = tt;
      asked = tells_from _ _ _ _ _ (ap (λ (d : MemoryDevice). d.asked) first)
          (ap (λ (n : List ℕ). judges n (named c.args.alg) c.args.message.now c.args.signature.now)
          c.text.ensures)
          (c.tell.ensures.told
          (judges c.text.result.now (named c.args.alg) c.args.message.now c.args.signature.now)
          c.judging.ensures);
      counts = rose_from _ _ _ _ (sym c.fails-fails.ensures.fails ∙ c.if-fails.true)
          c.fails-fails.ensures.faults c.fails-fails.ensures.later
          (ap (λ (d : MemoryDevice). d.faults) rest);
    }

pub returns-then-is_allowed-clause-judged : goal.returns-then-is_allowed-clause-judged
returns-then-is_allowed-clause-judged c =
    let rest = c.tell.ensures.rest in
    let first = c.fails-fails.ensures.rest in
    record {
      held = ap (λ (d : MemoryDevice). held_in d.names.items) rest
          ∙ ap (λ (d : MemoryDevice). held_in d.names.items) first;
      judged = ap (λ (d : MemoryDevice). λ n a m s. is_allowed d.allowed.items n m s) rest
          ∙ ap (λ (d : MemoryDevice). λ n a m s. is_allowed d.allowed.items n m s) first;
      verdict = verdict_from _ _ _ _ _ _ _ _ _ c.if-is_allowed.true c.is_allowed.ensures
          c.deref.ensures.value
          (ap (λ (d : MemoryDevice). d.allowed.items) rest ∙ ap (λ (d : MemoryDevice). d.allowed.items) first)
          c.text-2.ensures;
      asked = tells_from _ _ _ _ _ (ap (λ (d : MemoryDevice). d.asked) first)
          (ap (λ (n : List ℕ). judges n (named c.args.alg) c.args.message.now c.args.signature.now)
          c.text.ensures)
          (c.tell.ensures.told
          (judges c.text.result.now (named c.args.alg) c.args.message.now c.args.signature.now)
          c.judging.ensures);
      counts = same_from _ _ _ _ (sym c.fails-fails.ensures.fails ∙ c.if-fails.false)
          c.fails-fails.ensures.faults (ap (λ (d : MemoryDevice). d.faults) rest);
    }

pub returns-else-is_allowed-clause-judged : goal.returns-else-is_allowed-clause-judged
returns-else-is_allowed-clause-judged c =
    let rest = c.tell.ensures.rest in
    let first = c.fails-fails.ensures.rest in
    record {
      held = ap (λ (d : MemoryDevice). held_in d.names.items) rest
          ∙ ap (λ (d : MemoryDevice). held_in d.names.items) first;
      judged = ap (λ (d : MemoryDevice). λ n a m s. is_allowed d.allowed.items n m s) rest
          ∙ ap (λ (d : MemoryDevice). λ n a m s. is_allowed d.allowed.items n m s) first;
      verdict = verdict_from _ _ _ _ _ _ _ _ _ c.if-is_allowed.false c.is_allowed.ensures
          c.deref.ensures.value
          (ap (λ (d : MemoryDevice). d.allowed.items) rest ∙ ap (λ (d : MemoryDevice). d.allowed.items) first)
          c.text-2.ensures;
      asked = tells_from _ _ _ _ _ (ap (λ (d : MemoryDevice). d.asked) first)
          (ap (λ (n : List ℕ). judges n (named c.args.alg) c.args.message.now c.args.signature.now)
          c.text.ensures)
          (c.tell.ensures.told
          (judges c.text.result.now (named c.args.alg) c.args.message.now c.args.signature.now)
          c.judging.ensures);
      counts = same_from _ _ _ _ (sym c.fails-fails.ensures.fails ∙ c.if-fails.false)
          c.fails-fails.ensures.faults (ap (λ (d : MemoryDevice). d.faults) rest);
    }

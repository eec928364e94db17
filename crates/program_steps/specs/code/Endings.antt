-- What a step answers, as an ending.
use Rattle.std.specs.Prelude.{◌≡◌, ⊤, Result, Ok, Err, string_bytes}
use Rattle.key_device.specs.declared.device.SignError.{SignError}
use Rattle.key_device.specs.declared.device.SignError.TheVariants as sign
use Rattle.program_steps.specs.Outcome.{Outcome}
use Rattle.program_steps.specs.declared.reply.Reply.{Reply}
use Rattle.program_steps.specs.declared.stop.Stop.{Stop}
use Rattle.program_steps.specs.declared.stop.Stop.TheVariants.{Refused, Failed, NoMemory}
use Rattle.runs.specs.Runs.{Ending, value, refused, fault, out_of_memory}
use Rattle.runs.specs.declared.fault.Fault.TheVariants.{Device}

-- a reply as the outcome that it is
abbrev pub outcome : Reply → Outcome
outcome reply = record { status = reply.status; text = string_bytes reply.text }

-- what ends a command early
abbrev pub early : {A : Type 0} → Stop → Ending Outcome A
early (Refused reply) = refused (outcome reply)
early (Failed f) = fault f
early NoMemory = out_of_memory

-- where a value means this
abbrev pub ending : {T A : Type 0} → (T → A) → Result T Stop → Ending Outcome A
ending meaning (Ok v) = value (meaning v)
ending meaning (Err stop) = early stop

-- the device signed nothing
abbrev pub unsigned : SignError → Stop
unsigned sign.Failed = Failed Device
unsigned sign.NoMemory = NoMemory

-- How a command ends by the early end of a call below it: a refusal is printed as this line, for which memory
-- may run out; a fault is the same fault.
abbrev pub StopsBy : {R A : Type 0} → (R → Outcome) → Ending R A → Stop → Type 0
StopsBy printed (value v) stop = ⊥
StopsBy printed (refused refusal) (Refused reply) = outcome reply ≡ printed refusal
StopsBy printed (refused refusal) (Failed f) = ⊥
StopsBy printed (refused refusal) NoMemory = ⊤
StopsBy printed (fault f) (Refused reply) = ⊥
StopsBy printed (fault f) (Failed g) = g ≡ f
StopsBy printed (fault f) NoMemory = ⊥
StopsBy printed out_of_memory (Refused reply) = ⊥
StopsBy printed out_of_memory (Failed f) = ⊥
StopsBy printed out_of_memory NoMemory = ⊤

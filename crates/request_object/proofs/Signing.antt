-- A draft that a device signs.
use Rattle.std.proofs.Common.{◌≡◌, Err, subst}
use Rattle.outside.specs.Calls.{gave}
use Rattle.jws_envelope.specs.Compact.{Text}
use Rattle.jws_envelope.specs.Draft.{message_of}
use Rattle.key_device.specs.Device.{DeviceState, IsSigned, signature_given}
use Rattle.key_device.specs.declared.device.SignError.{SignError}
use Rattle.key_device.specs.declared.device.SignError.TheVariants.{Failed, NoMemory}
use Rattle.runs.specs.Runs.{value, out_of_memory, Runs}
use Rattle.runs.specs.World.{World}
use Rattle.runs.proofs.Questions.{runs_sign, runs_sign_fault, runs_sign_out}
use Rattle.runs.proofs.Trees.{runs_gives, runs_out}
use Rattle.request_object.specs.Endings.{early}
use Rattle.request_object.specs.Made.{signed_tree}
use Rattle.request_object.specs.code.Errors.{sign_refusal}

module _ (name input message : Text) (same : message ≡ input) (old new : DeviceState) (w : World) where
  -- it gave a signature, and this is the message with it
  pub runs_signed : (signature text : Text)
      → IsSigned name message old new (gave signature) → text ≡ message_of input signature
      → Runs (signed_tree name input) (record w { device = old }) (record w { device = new }) (value text)
  runs_signed signature text signed written =
      runs_sign name input _ old new signature w (value text)
      (subst (λ (m : Text). IsSigned name m old new (gave signature)) same signed)
      (runs_gives _ (message_of input signature) text (record w { device = new }) written)

  -- it gave a signature, and memory ran out
  pub runs_unfinished : (signature : Text) → IsSigned name message old new (gave signature)
      → Runs (signed_tree name input) (record w { device = old }) (record w { device = new }) out_of_memory
  runs_unfinished signature signed =
      runs_sign name input _ old new signature w out_of_memory
      (subst (λ (m : Text). IsSigned name m old new (gave signature)) same signed)
      (runs_out _ (record w { device = new }))

  -- it gave none
  pub runs_unsigned : (error : SignError) → IsSigned name message old new (signature_given (Err error))
      → Runs (signed_tree name input) (record w { device = old }) (record w { device = new })
      (early (sign_refusal error))
  runs_unsigned Failed signed =
      runs_sign_fault name input _ old new w
      (subst (λ (m : Text). IsSigned name m old new (signature_given (Err Failed))) same signed)
  runs_unsigned NoMemory signed =
      runs_sign_out name input _ old new w
      (subst (λ (m : Text). IsSigned name m old new (signature_given (Err NoMemory))) same signed)

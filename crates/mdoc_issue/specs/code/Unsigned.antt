-- What is made of a spec in memory before it is signed, and which error comes where the device signed
-- nothing.
use Rattle.std.specs.Prelude.{◌≡◌}
use Rattle.key_device.specs.declared.device.SignError.{SignError}
use Rattle.key_device.specs.declared.device.SignError.TheVariants as sign
use Rattle.mdoc_issue.specs.Issued.{namespaces_for, payload_for}
use Rattle.mdoc_issue.specs.Spec.{Spec}
use Rattle.mdoc_issue.specs.declared.error.Error.{Error}
use Rattle.mdoc_issue.specs.declared.error.Error.TheVariants.{DeviceFault, NoMemory}
use Rattle.mdoc_issue.specs.declared.issuing.Unsigned.{Unsigned}
use Rattle.mdoc_object.specs.Namespaces.{namespaces_bytes}

-- the items, and the object with their digests
pub record IsMadeOf (s : Spec) (u : Unsigned) : Type 0 where
  pub namespaces : u.namespaces.items ≡ namespaces_bytes (namespaces_for s)
  pub payload : u.payload.items ≡ payload_for s

abbrev pub unsigned : SignError → Error
unsigned sign.Failed = DeviceFault
unsigned sign.NoMemory = NoMemory

-- Which error comes where the device signed nothing.
use Rattle.key_device.specs.declared.device.SignError.{SignError}
use Rattle.key_device.specs.declared.device.SignError.TheVariants as sign
use Rattle.sdjwt_issue.specs.declared.error.Error.{Error}
use Rattle.sdjwt_issue.specs.declared.error.Error.TheVariants.{DeviceFault, NoMemory}

abbrev pub unsigned : SignError → Error
unsigned sign.Failed = DeviceFault
unsigned sign.NoMemory = NoMemory

-- What refusals of the crates below are to a document.
use Rattle.cbor_core.specs.declared.error.Error as theirs
use Rattle.cbor_core.specs.declared.error.Error.TheVariants as their
use Rattle.cose_sign1.specs.declared.error.Error as signed
use Rattle.cose_sign1.specs.declared.error.Error.TheVariants as sign
use Rattle.mdoc_view.specs.declared.error.Error.{Error}
use Rattle.mdoc_view.specs.declared.error.Error.TheVariants.{Cbor, Cose, NoMemory}

abbrev pub of_cbor : theirs.Error → Error
of_cbor (their.Refused n) = Cbor n
of_cbor their.NoMemory = NoMemory

abbrev pub of_cose : signed.Error → Error
of_cose (sign.Refused n) = Cose n
of_cose sign.NoMemory = NoMemory

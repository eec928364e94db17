-- The error for a refused JWS of the issuer.
use Rattle.jws_envelope.specs.declared.error.Error as theirs
use Rattle.jws_envelope.specs.declared.error.Error.TheVariants as their
use Rattle.sdjwt_view.specs.declared.error.Error.{Error}
use Rattle.sdjwt_view.specs.declared.error.Error.TheVariants.{Envelope, NoMemory}

abbrev pub of_envelope : theirs.Error → Error
of_envelope (their.Refused n) = Envelope n
of_envelope their.NoMemory = NoMemory

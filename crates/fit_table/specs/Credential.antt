-- What a credential in memory says, in either format (SD-JWT VC, section 3.2; ISO/IEC 18013-5, section
-- 8.3.2.1.2.2).
use Rattle.claim_tree.specs.Credential as claims
use Rattle.mdoc_view.specs.Credential as mdoc
use Rattle.sdjwt_view.specs.Credential as sdjwt
use Rattle.fit_table.specs.declared.credential.Credential.{Credential}
use Rattle.fit_table.specs.declared.credential.Credential.TheVariants.{Sd, Md}

abbrev pub meaning : Credential → claims.Credential
meaning (Sd c) = sdjwt.meaning c
meaning (Md c) = mdoc.meaning c

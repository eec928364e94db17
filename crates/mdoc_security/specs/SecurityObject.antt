-- What a mobile security object (ISO/IEC 18013-5, section 9.1.2.4) in memory says.
use Rattle.cbor_core.specs.Seen.{span_of}
use Rattle.cbor_core.specs.Views.{entries_of}
use Rattle.mdoc_security.specs.MobileSecurityObject.{MobileSecurityObject as SaidSecurityObject}
use Rattle.mdoc_security.specs.declared.mobile_security_object.MobileSecurityObject.{MobileSecurityObject}

abbrev pub said_security_object : MobileSecurityObject → SaidSecurityObject
said_security_object o = record {
  entries = entries_of (span_of o.map);
  algorithm = o.algorithm.now;
  kind = o.kind.now;
  digests = entries_of (span_of o.digests);
  validity = entries_of (span_of o.validity);
}

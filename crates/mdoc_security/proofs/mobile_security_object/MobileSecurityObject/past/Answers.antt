use Rattle.std.proofs.Common.{rules, ◌≡◌, Some, codes, sym, ◌∙◌, arith}
use Rattle.cbor_core.specs.Seen.{span_of}
use Rattle.cbor_core.specs.Views.{entries_of}
use Rattle.mdoc_security.specs.MobileSecurityObject.{moment_at}
use Rattle.mdoc_security.proofs.Dates.{moment_small}
use Rattle.mdoc_security.proofs.mobile_security_object.MobileSecurityObject.past.Goals as goal

pub overflow_add-result : goal.overflow_add-result
overflow_add-result c =
    let validity = entries_of (span_of c.args.self.now.validity) in
    let is : moment_at (codes "validUntil") validity ≡ Some c.in_ok-last.last =
    sym c.last.ensures ∙ c.in_ok-last.was in
    omega (arith, moment_small (codes "validUntil") validity c.in_ok-last.last is)

pub returns : goal.returns
returns c = search rules

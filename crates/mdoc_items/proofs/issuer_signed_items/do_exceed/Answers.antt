use Rattle.std.proofs.Common.{rules}
use Rattle.mdoc_items.proofs.issuer_signed_items.do_exceed.Goals as goal

pub loop-list-init : goal.loop-list-init
loop-list-init c = search rules

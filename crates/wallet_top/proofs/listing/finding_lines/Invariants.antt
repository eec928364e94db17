use Rattle.std.proofs.Common.{◌≡◌, ◌++◌, drop, string_bytes}
use Rattle.wallet_top.specs.Listing.{finding_lines}
use Rattle.wallet_top.proofs.listing.finding_lines.Given as goal

abbrev pub invariant-loop-finding : goal.invariant-loop-finding
invariant-loop-finding l = record {
  number : l.number ≡ l.finding-index;
  text : string_bytes l.text ++ finding_lines l.finding-index
      (drop l.finding-index l.findings) ≡ finding_lines 0 l.findings;
}

use Rattle.std.proofs.Common.{◌≡◌, drop}
use Rattle.std.specs.List.{list_all}
use Rattle.request_content.specs.Content.{is_unreserved}
use Rattle.request_content.proofs.content_rules.are_unreserved.Given as goal

abbrev pub invariant-loop-byte : goal.invariant-loop-byte
invariant-loop-byte l = list_all is_unreserved (drop l.byte-index l.text) ≡ list_all is_unreserved l.text

use Rattle.std.proofs.Common.{◌≡◌, ◌++◌, map, string_bytes}
use Rattle.form_urlencoded.specs.Form.{raw_pairs}
use Rattle.form_urlencoded.specs.Parse.{pairs_left}
use Rattle.request_links.specs.Link.{named}
use Rattle.request_links.proofs.parameters.values_of.Given as goal

abbrev pub invariant-loop-pair : goal.invariant-loop-pair
invariant-loop-pair l = map (λ s. string_bytes s) l.values.items ++ named l.name (pairs_left l.pair-iterator)
    ≡ named l.name (raw_pairs l.form)

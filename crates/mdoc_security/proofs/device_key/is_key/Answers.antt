use Rattle.std.proofs.Common.{rules, tests, sym, ◌∙◌}
use Rattle.std.proofs.lemmas.Iterator.Consumers.{YieldsList-from_first}
use Rattle.std.proofs.lemmas.Iterator.Search.{all_from_yields_List}
use Rattle.cbor_core.specs.Seen.{span_of, entries_left}
use Rattle.cbor_core.specs.Views.{entries_of}
use Rattle.mdoc_security.specs.DeviceKey.{is_labelled}
use Rattle.mdoc_security.proofs.device_key.is_key.Goals as goal

pub returns-then-is_map : goal.returns-then-is_map
returns-then-is_map c = rw (sym c.is_map.ensures ∙ c.if-is_map.true) (
    all_from_yields_List is_labelled c.all.new.self _ c.all.result c.all.ensures.ran
    (YieldsList-from_first (λ e. (e.0.bytes.now, e.1.bytes.now)) entries_left {s = c.entries.result}
    (entries_of (span_of c.args.item)) c.entries.ensures.left)
    (λ x b q k. search (rules, tests)))

use Rattle.std.proofs.Common.{◌≡◌, ◌++◌, map, drop}
use Rattle.serde_json.specs.View.{view}
use Rattle.dcql_query.specs.Meaning.{options_of}
use Rattle.dcql_query.proofs.read_sets.read_options.Given as goal

abbrev pub invariant-loop-option : goal.invariant-loop-option
invariant-loop-option l = l.read.items ++ options_of (map view l.queries)
    (map view (drop l.option-index l.options)) ≡ options_of (map view l.queries) (map view l.options)

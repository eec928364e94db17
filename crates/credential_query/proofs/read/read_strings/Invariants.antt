use Rattle.std.proofs.Common.{◌≡◌, ◌++◌, map, drop}
use Rattle.serde_json.specs.View.{view}
use Rattle.credential_query.specs.Meaning.{strings_of}
use Rattle.credential_query.proofs.read.read_strings.Given as goal

abbrev pub invariant-loop-value : goal.invariant-loop-value
invariant-loop-value l = l.strings.items ++ strings_of (map view (drop l.value-index l.values))
    ≡ strings_of (map view l.values)

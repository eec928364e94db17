use Rattle.std.proofs.Common.{◌≡◌, ◌∷◌, map, drop}
use Rattle.cbor_validity.specs.Keys.{neighbours_differ}
use Rattle.cbor_validity.specs.code.KeySeen.{meaning_of}
use Rattle.cbor_validity.proofs.key.neighbours_differ.Given as goal

abbrev pub invariant-loop-key : goal.invariant-loop-key
invariant-loop-key l =
    neighbours_differ (meaning_of l.before ∷ map meaning_of (drop l.key-index l.rest)) ≡ neighbours_differ
    (map meaning_of l.keys)

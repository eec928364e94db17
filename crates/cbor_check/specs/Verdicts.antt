-- What the program says of a line: whether its bytes, in hexadecimal (RFC 4648, section 8), are one CBOR item
-- (RFC 8949) with at most 32 lists, maps and tags inside one another.
use Rattle.std.specs.Prelude.{ℕ, List, Option, Some, None, Ok, Err}
use Rattle.base_forms.specs.Base16.{hex_read}
use Rattle.cbor_core.specs.Rules.{broken_rule}
use Rattle.cbor_check.specs.declared.verdict.Verdict.{Verdict}
use Rattle.cbor_check.specs.declared.verdict.Verdict.TheVariants.{Read, Refused, NoHexadecimal}

-- the verdict on bytes that break this rule, or none
abbrev pub verdict_by : Option ℕ → Verdict
verdict_by None = Read
verdict_by (Some rule) = Refused rule

-- the verdict on a line
abbrev pub verdict_of : List ℕ → Verdict
verdict_of line =
    elim (hex_read line) [ Ok bytes ↦ verdict_by (broken_rule 32 bytes) | Err rule ↦ NoHexadecimal ]

use Rattle.std.proofs.Common.{◌≡◌, ◌++◌, length, string_bytes}
use denote.Shadow.{shadow}
use denote.Text.{Utf8}
use Rattle.base_forms.specs.Lines.{lines_of}
use Rattle.cbor_check.specs.Answers.{answers}
use Rattle.cbor_check.proofs.answers.answers.Given as goal

abbrev pub invariant-loop-rest : goal.invariant-loop-rest
invariant-loop-rest l = record {
  found : string_bytes l.found ++ answers (lines_of l.rest) ≡ answers (lines_of l.text);
  text : shadow (Utf8 l.rest);
}

abbrev pub decreases-loop-rest : goal.decreases-loop-rest
decreases-loop-rest l = length l.rest

use Rattle.std.proofs.Common.{◌≡◌, length}
use Rattle.std.specs.Option.{option_copied}
use Rattle.dcql_answers.specs.Answer.{answer_cmp}
use Rattle.admitted_answers.specs.Admits.{Admits}
use Rattle.admitted_answers.specs.Least.{AreNext}
use Rattle.admitted_answers.proofs.pages.page.Given as goal

abbrev pub invariant-loop-i : goal.invariant-loop-i
invariant-loop-i l = record {
  next : AreNext (Admits l.query l.fits) answer_cmp (option_copied l.after) l.answers.items;
  count : length l.answers.items ≡ l._i;
}

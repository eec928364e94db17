use Rattle.dcql_answers.specs.Answer.{answer_cmp}
use Rattle.dcql_answers.proofs.Orders.{answer_order}
use Rattle.admitted_answers.specs.Admits.{Admits}
use Rattle.admitted_answers.proofs.Followed.{following_none, following_more}
use Rattle.admitted_answers.proofs.AllAnswers.{following}
use Rattle.admitted_answers.proofs.laws.following_is_next.Goals as goal

pub returns : goal.returns
returns c = record {
  there = following;
  none = λ q fits a. following_none (Admits q fits) answer_cmp a;
  next = λ q fits a x xs. following_more answer_order (Admits q fits) a x xs;
}

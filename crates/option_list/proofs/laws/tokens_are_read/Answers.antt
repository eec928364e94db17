use Rattle.option_list.proofs.TokenLaws.{names_no_rule, one_rule, one_answer}
use Rattle.option_list.proofs.Decided.{is_decided}
use Rattle.option_list.proofs.laws.tokens_are_read.Goals as goal

pub returns : goal.returns
returns c = record {
  unbroken = names_no_rule;
  one_rule = one_rule;
  one_answer = one_answer;
  decided = is_decided;
}

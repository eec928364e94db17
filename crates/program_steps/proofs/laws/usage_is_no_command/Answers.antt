use Rattle.program_steps.proofs.EndLaws.{usage_is_no_command, no_command_is_usage, no_command_asks_nothing}
use Rattle.program_steps.proofs.laws.usage_is_no_command.Goals as goal

pub returns : goal.returns
returns c = record {
  usage = usage_is_no_command;
  no_command = no_command_is_usage;
  nothing =
      no_command_asks_nothing;
}

use Rattle.std.proofs.Common.{refl}
use Rattle.runs.proofs.Questions.{runs_time, runs_time_fault}
use Rattle.runs.proofs.Trees.{runs_gives}
use Rattle.wallet_options.proofs.options.moment.Goals as goal

pub returns-in-Ok : goal.returns-in-Ok
returns-in-Ok g c = λ w. runs_time _ _ _ c.in-Ok.now w _ _ c.in-Ok.ensures.told (runs_gives _ _ _ _ refl)

pub returns-in-Err : goal.returns-in-Err
returns-in-Err g c = λ w. runs_time_fault _ _ _ w c.in-Err.ensures.told

use Rattle.std.proofs.Common.{rules}
use Rattle.serde_json.specs.declared.value.Value.{the_lemmas}
use Rattle.claim_path.proofs.read.read_scalar.Goals as goal

pub returns-in-Bool : goal.returns-in-Bool
returns-in-Bool c = search (rules, the_lemmas)

use Rattle.std.proofs.Common.{refl}
use Rattle.sample_tables.proofs.laws.limits.Goals as goal

pub returns-clause-weights : goal.returns-clause-weights
returns-clause-weights c = refl

use Rattle.std.proofs.Common.{refl}
use Rattle.sample_tables.proofs.values.Names.of.Goals as goal

pub returns : goal.returns
returns c = refl

use Rattle.std.proofs.Common.{refl}
use Rattle.profile_tables.proofs.tables.Tables.chosen.Goals as goal

pub returns : goal.returns
returns c = refl

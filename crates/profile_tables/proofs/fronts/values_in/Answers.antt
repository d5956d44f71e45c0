use Rattle.std.proofs.Common.{rules}
use Rattle.profile_tables.proofs.FrontLemmas.{with_values-append}
use Rattle.profile_tables.proofs.fronts.values_in.Goals as goal

pub loop-field-preserved-in-2 : goal.loop-field-preserved-in-2
loop-field-preserved-in-2 c = search (rules, with_values-append)

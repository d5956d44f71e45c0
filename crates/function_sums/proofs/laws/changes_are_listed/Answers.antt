use Rattle.function_sums.proofs.FunctionList.{changes_alone, changes_listed}
use Rattle.function_sums.proofs.laws.changes_are_listed.Goals as goal

pub returns-clause-listed : goal.returns-clause-listed
returns-clause-listed c = changes_listed

pub returns-clause-alone : goal.returns-clause-alone
returns-clause-alone c = changes_alone

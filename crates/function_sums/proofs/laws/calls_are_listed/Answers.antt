use Rattle.function_sums.proofs.FunctionList.{calls_alone, calls_listed}
use Rattle.function_sums.proofs.laws.calls_are_listed.Goals as goal

pub returns-clause-listed : goal.returns-clause-listed
returns-clause-listed c = calls_listed

pub returns-clause-alone : goal.returns-clause-alone
returns-clause-alone c = calls_alone

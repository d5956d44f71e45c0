use Rattle.function_sums.proofs.FunctionList.{listed, listed_alone}
use Rattle.function_sums.proofs.laws.functions_are_listed.Goals as goal

pub returns-clause-listed : goal.returns-clause-listed
returns-clause-listed c = listed

pub returns-clause-alone : goal.returns-clause-alone
returns-clause-alone c = listed_alone

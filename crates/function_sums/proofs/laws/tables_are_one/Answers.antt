use Rattle.function_sums.proofs.FunctionList.{one_table}
use Rattle.function_sums.proofs.laws.tables_are_one.Goals as goal

pub returns : goal.returns
returns c by samples one other f g = one_table by samples one other f g

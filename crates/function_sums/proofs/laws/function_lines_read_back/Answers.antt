use Rattle.function_sums.proofs.JsonLaws.{read_back}
use Rattle.function_sums.proofs.laws.function_lines_read_back.Goals as goal

pub returns : goal.returns
returns c = read_back

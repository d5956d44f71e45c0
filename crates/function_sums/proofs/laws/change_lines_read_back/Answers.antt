use Rattle.function_sums.proofs.JsonLaws.{changes_read_back}
use Rattle.function_sums.proofs.laws.change_lines_read_back.Goals as goal

pub returns : goal.returns
returns c = changes_read_back

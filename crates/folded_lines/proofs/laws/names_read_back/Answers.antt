use Rattle.folded_lines.proofs.NamesBack.{samples_plain, closed_plain}
use Rattle.folded_lines.proofs.laws.names_read_back.Goals as goal

pub returns-clause-plain : goal.returns-clause-plain
returns-clause-plain c = samples_plain

pub returns-clause-closed : goal.returns-clause-closed
returns-clause-closed c = closed_plain

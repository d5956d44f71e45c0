use Rattle.folded_lines.proofs.StrictLemmas.{accepted, reads_the_same}
use Rattle.folded_lines.proofs.laws.strict_text_reads_the_same.Goals as goal

pub returns-clause-accepted : goal.returns-clause-accepted
returns-clause-accepted c = accepted

pub returns-clause-same : goal.returns-clause-same
returns-clause-same c = reads_the_same

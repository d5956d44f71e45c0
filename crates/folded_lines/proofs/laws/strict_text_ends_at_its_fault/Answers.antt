use Rattle.folded_lines.proofs.StrictStreamTexts.{strict_first, strict_same, strict_text_fault}
use Rattle.folded_lines.proofs.laws.strict_text_ends_at_its_fault.Goals as goal

pub returns-clause-fault : goal.returns-clause-fault
returns-clause-fault c = strict_text_fault

pub returns-clause-front : goal.returns-clause-front
returns-clause-front c = strict_first

pub returns-clause-same : goal.returns-clause-same
returns-clause-same c = strict_same

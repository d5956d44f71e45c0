use Rattle.folded_lines.proofs.PartReading.{faultless_two, faultless_whole, faultless_parts}
use Rattle.folded_lines.proofs.laws.text_reads_as_its_parts.Goals as goal

pub returns-clause-two : goal.returns-clause-two
returns-clause-two c = faultless_two

pub returns-clause-whole : goal.returns-clause-whole
returns-clause-whole c = faultless_whole

pub returns-clause-parts : goal.returns-clause-parts
returns-clause-parts c = faultless_parts

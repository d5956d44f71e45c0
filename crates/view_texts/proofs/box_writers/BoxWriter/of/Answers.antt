use Rattle.std.proofs.Common.{rules}
use Rattle.view_texts.proofs.box_writers.BoxWriter.of.Goals as goal

pub returns : goal.returns
returns c = search rules

use Rattle.flame_layout.proofs.LawProofs.{root_width}
use Rattle.flame_layout.proofs.laws.roots_span_the_width.Goals as goal

pub returns : goal.returns
returns c = root_width

use Rattle.std.proofs.Common.{rules}
use Rattle.flame_layout.proofs.graphs.visit_box.Goals as goal

pub returns : goal.returns
returns c = search rules

use Rattle.std.proofs.Common.{◌+◌}
use Rattle.flame_layout.proofs.LawProofs.{edge_order}
use Rattle.flame_layout.proofs.laws.edges_keep_order.Goals as goal

pub returns-clause-rights : goal.returns-clause-rights
returns-clause-rights c total width outer inner positive le = edge_order total width (inner.start + inner.weight) (outer.start + outer.weight) positive le

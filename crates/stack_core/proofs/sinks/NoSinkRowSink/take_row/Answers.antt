use Rattle.std.proofs.Common.{refl}
use Rattle.stack_core.proofs.sinks.NoSinkRowSink.take_row.Goals as goal

pub returns-clause-ok : goal.returns-clause-ok
returns-clause-ok c = rw (c.of-3.ensures, c.of-2.ensures, c.of.ensures, ← c.self.view_is) refl

use Rattle.std.proofs.Common.{ap}
use Rattle.stack_core.specs.Ledgers.{ListState}
use Rattle.stack_core.proofs.lists.SourceList.ending.Goals as goal

pub returns : goal.returns
returns c = ap (λ (s : ListState). s.ending) c.self.view_is

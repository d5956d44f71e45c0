use Rattle.std.proofs.Common.{ap, ◌∙◌}
use Rattle.sample_tables.specs.Samples.{total_weight}
use Rattle.stack_core.specs.Ledgers.{ListState}
use Rattle.stack_core.proofs.lists.SourceList.total.Goals as goal

pub returns : goal.returns
returns c = c.total.ensures ∙ ap (λ (s : ListState). total_weight s.samples) c.self.view_is

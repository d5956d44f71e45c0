use Rattle.std.proofs.Common.{ap, ◌∙◌}
use Rattle.sample_tables.specs.Rows.{sample_at}
use Rattle.stack_core.specs.Ledgers.{ListState}
use Rattle.stack_core.proofs.lists.SourceList.weight.Goals as goal

pub returns-clause-value : goal.returns-clause-value
returns-clause-value c =
    c.weight.ensures.sample ∙ ap (λ (s : ListState). (sample_at s.samples c.args.i).weight) c.self.view_is

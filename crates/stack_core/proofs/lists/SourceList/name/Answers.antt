use Rattle.std.proofs.Common.{ap, ◌∙◌}
use Rattle.sample_tables.specs.Rows.{name_at}
use Rattle.stack_core.specs.Ledgers.{ListState}
use Rattle.stack_core.proofs.lists.SourceList.name.Goals as goal

pub returns : goal.returns
returns c =
    c.name.ensures ∙ ap (λ (s : ListState). name_at s.told c.number.result) c.self.view_is ∙ c.number.ensures.name

use Rattle.std.proofs.Common.{◌∙◌}
use Rattle.sample_tables.proofs.values.Text.get.Goals as goal

pub returns : goal.returns
returns c = c.as_str.ensures.value ∙ c.self.view_is

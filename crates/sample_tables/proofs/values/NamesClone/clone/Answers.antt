use Rattle.std.proofs.Common.{string_bytes, ◌∙◌}
use Rattle.sample_tables.proofs.Texts.{map_copies}
use Rattle.sample_tables.proofs.values.NamesClone.clone.Goals as goal

pub returns : goal.returns
returns c =
    record { cases = map_copies string_bytes _ _ c.in_ok-clone.ensures.cases.0 ∙ c.self.view_is }

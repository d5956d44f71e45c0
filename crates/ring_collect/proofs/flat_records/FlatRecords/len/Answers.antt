use Rattle.std.proofs.Common.{◌∙◌, length, sym, ap}
use Rattle.ring_collect.proofs.FlatLemmas.{as_many_records}
use Rattle.ring_collect.proofs.flat_records.FlatRecords.len.Goals as goal

pub returns : goal.returns
returns c = c.len.ensures ∙ c.self.inside.steps.ok.0 ∙ sym (as_many_records _ _ _) ∙ ap length c.self.view_is

use Rattle.std.proofs.Common.{◌∙◌, ◌==◌, length, sym, ap}
use Rattle.ring_collect.proofs.FlatLemmas.{as_many_records}
use Rattle.ring_collect.proofs.flat_records.FlatRecords.is_empty.Goals as goal

pub returns : goal.returns
returns c = c.is_empty.ensures ∙ ap (λ n. n == 0) (c.self.inside.steps.ok.0 ∙ sym (as_many_records _ _ _) ∙ ap length c.self.view_is)

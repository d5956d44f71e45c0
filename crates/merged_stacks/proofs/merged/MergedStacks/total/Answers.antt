use Rattle.std.proofs.Common.{◌∙◌, ap, map, string_bytes, sym}
use Rattle.merged_stacks.specs.RankedStacks.{ranked_samples}
use Rattle.merged_stacks.proofs.JoinedStacks.{seen_total}
use Rattle.merged_stacks.proofs.merged.MergedStacks.total.Goals as goal

pub returns : goal.returns
returns c = c.total.ensures ∙ sym (seen_total (map string_bytes c.self.inside.names.items) c.self.inside.rows _ (ap ranked_samples c.self.view_is))

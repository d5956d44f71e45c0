use Rattle.std.proofs.Common.{ap, map, string_bytes}
use Rattle.merged_stacks.specs.RankedStacks.{ranked_samples}
use Rattle.merged_stacks.proofs.JoinedStacks.{seen_in_order, seen_positive}
use Rattle.merged_stacks.proofs.merged.MergedStacksStackRows.len.Goals as goal

pub returns-clause-in_order : goal.returns-clause-in_order
returns-clause-in_order c = seen_in_order (map string_bytes c.self.inside.names.items) c.self.inside.rows _ (ap ranked_samples c.self.view_is) c.self.invariant

pub returns-clause-positive : goal.returns-clause-positive
returns-clause-positive c = seen_positive (map string_bytes c.self.inside.names.items) c.self.inside.rows _ (ap ranked_samples c.self.view_is) c.self.invariant

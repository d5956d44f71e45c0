-- The order of stacks, and of names.
use Rattle.std.specs.declared.cmp.Ordering.{Ordering}
use Rattle.std.specs.Ordering.{nat_cmp}
use Rattle.std.specs.Cmp.Lexicographic.{slice_cmp}
use Rattle.merged_stacks.specs.Timeline.{Stack}
pub use Rattle.ranked_rows.specs.Ranks.{AreRising}

-- name by name, names by their bytes
abbrev pub stack_cmp : Stack → Stack → Ordering
stack_cmp = slice_cmp (slice_cmp nat_cmp)

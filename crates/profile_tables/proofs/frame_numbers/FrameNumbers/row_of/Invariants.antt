use Rattle.std.proofs.Common.{◌≡◌, ◌++◌, length}
use Rattle.stack_core.specs.Prefixes.{IsPrefixOf}
use Rattle.stack_core.specs.Records.{names_at}
use Rattle.profile_tables.specs.Samples.{stack_of_ids}
use Rattle.profile_tables.specs.checked.Frames.{frames_at}
use Rattle.profile_tables.specs.checked.FrameNumbers.{AreNumbersOf, IsNumbered}
use Rattle.profile_tables.proofs.frame_numbers.FrameNumbers.row_of.Given as goal

abbrev pub invariant-loop-id : goal.invariant-loop-id
invariant-loop-id l = record {
  known : AreNumbersOf l.frames l.self;
  row : IsNumbered l.fn.self.table (names_at l.self.table l.row.items) l.self.table l.row.items;
  left : names_at l.self.table l.row.items ++ stack_of_ids (frames_at l.frames) l.left ≡ stack_of_ids (frames_at l.frames) l.fn.ids;
  grows : IsPrefixOf l.fn.self.table l.self.table;
}

abbrev pub decreases-loop-id : goal.decreases-loop-id
decreases-loop-id l = length l.left

use Rattle.std.proofs.Common.{◌≤◌, ◌++◌, ℕ, List}
use Rattle.stack_core.specs.Prefixes.{IsPrefixOf}
use Rattle.profile_tables.specs.checked.FrameNumbers.{root_first, AreNumbersOf, IsNumbered}
use Rattle.profile_tables.proofs.frame_numbers.FrameNumbers.append.Given as goal

abbrev pub invariant-loop-past : goal.invariant-loop-past
invariant-loop-past l = record {
  order : l.span.start ≤ l.past;
  within : l.past ≤ l.span.end;
  known : AreNumbersOf l.frames l.self;
  row : (before stack : List (List ℕ)) → IsNumbered before stack l.fn.self.table l.fn.row.items → IsNumbered before (stack ++ root_first l.frames l.past l.span.end) l.self.table l.row.items;
  grows : IsPrefixOf l.fn.self.table l.self.table;
}

abbrev pub decreases-loop-past : goal.decreases-loop-past
decreases-loop-past l = l.past

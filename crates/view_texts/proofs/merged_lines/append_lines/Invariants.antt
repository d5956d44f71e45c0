-- The lines so far were appended, and the names are those of the last one.
use Rattle.std.proofs.Common.{◌≡◌, ◌++◌, ◌<◌, All, length}
use Rattle.std.specs.List.{concat, slice_range}
use Rattle.merged_stacks.specs.RankedStacks.{ranked_samples}
use Rattle.view_texts.specs.Pieces.{stack_lines}
use Rattle.view_texts.specs.checked.Joined.{joined_names}
use Rattle.view_texts.proofs.merged_lines.append_lines.Given as goal

abbrev pub invariant-loop-at : goal.invariant-loop-at
invariant-loop-at l = record {
  appended : l.out.items ≡ l.initial.out.items ++ concat (slice_range (stack_lines (ranked_samples l.merged)) l.from l.at);
  joined : l.names.items ≡ joined_names l.merged.names l.last;
  known : All (λ rank. rank < length l.merged.names) l.last;
}

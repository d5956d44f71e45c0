-- the names so far are numbered, and those of what is left are not
use Rattle.std.proofs.Common.{◌≡◌, ◌++◌}
use Rattle.std.specs.List.{slice_split}
use Rattle.stack_core.specs.Prefixes.{IsPrefixOf}
use Rattle.stack_core.specs.Records.{names_at}
use Rattle.folded_lines.specs.Lines.{is_semicolon}
use Rattle.folded_lines.specs.checked.Telling.{IsNumbered}
use Rattle.folded_lines.proofs.Cuts.{names_left, bytes_left}
use Rattle.folded_lines.proofs.numbering.number_parts.Given as goal

abbrev pub invariant-loop-rest : goal.invariant-loop-rest
invariant-loop-rest l = record {
  numbered : IsNumbered (names_at l.table l.frames.items) l.fn.table l.table l.frames.items;
  same : names_at l.table l.frames.items ++ names_left l.rest ≡ names_at l.fn.table l.fn.frames.items ++ slice_split is_semicolon l.head;
  grows : IsPrefixOf l.fn.table l.table;
}

abbrev pub decreases-loop-rest : goal.decreases-loop-rest
decreases-loop-rest l = bytes_left l.rest

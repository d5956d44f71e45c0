use Rattle.std.proofs.Common.{◌≡◌, ◌++◌, take}
use Rattle.std.specs.List.{join_with_byte}
use Rattle.sample_tables.specs.Rows.{sample_at}
use Rattle.view_texts.proofs.merged_lines.append_names.Given as goal

abbrev pub invariant-loop-frame : goal.invariant-loop-frame
invariant-loop-frame g l = l.out.items ≡ l.fn.out.items ++ join_with_byte 59 (take l.frame (sample_at (g.S.StackRows.samples l.rows) l.at).stack)

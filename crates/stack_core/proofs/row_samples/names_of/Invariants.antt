-- the names so far are those of the numbers so far
use Rattle.std.proofs.Common.{◌≡◌, take, map, string_bytes}
use Rattle.stack_core.specs.Records.{names_at}
use Rattle.stack_core.proofs.row_samples.names_of.Given as goal

abbrev pub invariant-loop-number : goal.invariant-loop-number
invariant-loop-number g l = map string_bytes l.names.items ≡ names_at (g.R.RowReader.told l.reader).names (take l.number-index l.frames)

-- the number that the digits so far write
use Rattle.std.proofs.Common.{◌≡◌, ◌+◌, min, take}
use Rattle.std.specs.Str.Parse.{digits_value}
use Rattle.sample_tables.specs.declared.samples.TheConstants.{WEIGHT_LIMIT}
use Rattle.folded_lines.proofs.columns.weight_of.Given as goal

abbrev pub invariant-loop-b : goal.invariant-loop-b
invariant-loop-b l = l.weight ≡ min (digits_value 10 (take l.b-index l.digits)) (WEIGHT_LIMIT + 1)

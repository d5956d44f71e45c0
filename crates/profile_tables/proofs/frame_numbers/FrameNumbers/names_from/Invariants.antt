use Rattle.std.proofs.Common.{◌≡◌, take, drop}
use Rattle.profile_tables.proofs.frame_numbers.FrameNumbers.names_from.Given as goal

abbrev pub invariant-loop-number : goal.invariant-loop-number
invariant-loop-number l = l.names.items ≡ drop l.first (take l.number l.self.table)

-- all bytes before are the same
use Rattle.std.proofs.Common.{◌≡◌, take}
use Rattle.folded_lines.proofs.shared_names.same_bytes.Given as goal

abbrev pub invariant-loop-at : goal.invariant-loop-at
invariant-loop-at l = take l.at l.one ≡ take l.at l.other

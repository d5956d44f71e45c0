use Rattle.std.proofs.Common.{◌≡◌, ◌++◌, map, take, slice_index}
use Rattle.ranked_rows.proofs.rows.append_ranks.Given as goal

abbrev pub invariant-loop-number : goal.invariant-loop-number
invariant-loop-number l = l.frames.items ≡ l.fn.frames.items ++ map (slice_index l.ranks) (take l.number-index l.numbers)

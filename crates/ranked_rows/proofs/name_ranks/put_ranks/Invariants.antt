use Rattle.std.proofs.Common.{◌≡◌, ◌≤◌, ℕ, get_or, map, slice_index, take}
use Rattle.ranked_rows.proofs.name_ranks.put_ranks.Given as goal

abbrev pub invariant-loop-number : goal.invariant-loop-number
invariant-loop-number l = record {
  ranked : take l.number-index l.numbers ≡ map (slice_index l.ranks) (take l.number-index l.fn.numbers);
  rest : (k : ℕ) → l.number-index ≤ k → get_or l.numbers k 0 ≡ get_or l.fn.numbers k 0;
}

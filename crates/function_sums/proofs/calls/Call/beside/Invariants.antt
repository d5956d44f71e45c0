-- what was found, and what the frames from the last one on have, are all that there is
use Rattle.std.proofs.Common.{◌≡◌, ◌-◌, ◌<◌, ◌++◌, All, drop, length, map}
use Rattle.sample_tables.specs.Rows.{name_at}
use Rattle.function_sums.specs.Calls.{beside_in}
use Rattle.function_sums.proofs.calls.Call.beside.Given as goal

abbrev pub invariant-loop-at : goal.invariant-loop-at
invariant-loop-at l = record {
  known : All (λ rank. rank < length l.merged.names) l.found.items;
  names : map (name_at l.merged.names) l.found.items ++ beside_in l.self.side l.self.name.now (map (name_at l.merged.names) (drop (l.at - 1) l.ranks))
      ≡ beside_in l.self.side l.self.name.now (map (name_at l.merged.names) l.ranks);
}

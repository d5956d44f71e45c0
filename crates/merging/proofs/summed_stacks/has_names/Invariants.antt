use Rattle.std.proofs.Common.{◌≡◌, ◌<◌, ◌≤◌, ℕ, get_or, length}
use Rattle.sample_tables.specs.Rows.{name_at}
use Rattle.merging.proofs.summed_stacks.has_names.Given as goal

abbrev pub invariant-loop-at : goal.invariant-loop-at
invariant-loop-at l = record {
  reached : l.at ≤ length l.numbers;
  same : (k : ℕ) → k < l.at → name_at l.table.names (get_or l.numbers k 0) ≡ name_at l.ledger.told (get_or l.frames k 0);
}

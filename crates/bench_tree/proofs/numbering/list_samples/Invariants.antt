-- The ledger is open and is told the table's names.
use Rattle.std.proofs.Common.{◌≡◌, None, length}
use Rattle.bench_tree.proofs.numbering.list_samples.Given as goal

abbrev pub invariant-samples : goal.invariant-samples
invariant-samples g l = record {
  still_open : l.ledger.close ≡ None;
  told : length l.ledger.told ≡ length l.table;
}

abbrev pub decreases-samples : goal.decreases-samples
decreases-samples g l = length (g.R.SampleReader.rest l.reader).samples

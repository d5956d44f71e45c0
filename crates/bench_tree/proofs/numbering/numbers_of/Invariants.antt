-- The numbers so far are those of told names.
use Rattle.std.proofs.Common.{◌≡◌, ◌<◌, All, None, length}
use Rattle.bench_tree.proofs.numbering.numbers_of.Given as goal

abbrev pub invariant-loop-name : goal.invariant-loop-name
invariant-loop-name l = record {
  still_open : l.ledger.close ≡ None;
  told : length l.ledger.told ≡ length l.table;
  numbers : All (λ number. number < length l.ledger.told) l.numbers.items;
  count : length l.numbers.items ≡ l.name-index;
}

use Rattle.std.proofs.Common.{◌≡◌, length}
use Rattle.wire_fields.specs.Reading.{numbers_of}
use Rattle.profile_tables.specs.checked.Fronts.{with_values}
use Rattle.profile_tables.proofs.fronts.Values.with_run.Given as goal

abbrev pub invariant-loop-value : goal.invariant-loop-value
invariant-loop-value l = record {
  values : with_values l.chosen l.values l.run.items ≡ with_values l.chosen l.fn.self (numbers_of l.run-2).items;
  fault : l.run.fault ≡ (numbers_of l.run-2).fault;
}

abbrev pub decreases-loop-value : goal.decreases-loop-value
decreases-loop-value l = length l.run.items

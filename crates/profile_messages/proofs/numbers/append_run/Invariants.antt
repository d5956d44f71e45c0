use Rattle.std.proofs.Common.{◌≡◌, ◌++◌, length}
use Rattle.wire_fields.specs.Reading.{numbers_of}
use Rattle.profile_messages.proofs.numbers.append_run.Given as goal

abbrev pub invariant-loop-number : goal.invariant-loop-number
invariant-loop-number l = record {
  fault : l.run.fault ≡ (numbers_of l.run-2).fault;
  numbers : l.numbers.items ++ l.run.items ≡ l.fn.numbers.items ++ (numbers_of l.run-2).items;
}

abbrev pub decreases-loop-number : goal.decreases-loop-number
decreases-loop-number l = length l.run.items

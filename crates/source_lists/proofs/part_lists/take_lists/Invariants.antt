use Rattle.std.proofs.Common.{◌≡◌, None, map}
use Rattle.stack_core.specs.Parts.{samples_of_parts}
use Rattle.ring_collect.specs.Collection.{seen_as_rest}
use Rattle.source_lists.proofs.part_lists.take_lists.Given as goal

abbrev pub invariant-loop-list : goal.invariant-loop-list
invariant-loop-list l = record {
  open_ : l.ledger.close ≡ None;
  samples : l.ledger.samples ≡ samples_of_parts (map seen_as_rest l.yielded);
}

use Rattle.std.proofs.Common.{◌≡◌, None, map, take}
use Rattle.source_lists.specs.checked.CutStacks.{edited_sample, shown_numbers, shown_stack}
use Rattle.source_lists.proofs.cut_lists.cut_list.Given as goal

abbrev pub invariant-loop-at : goal.invariant-loop-at
invariant-loop-at l = record {
  open_ : l.ledger.close ≡ None;
  told : l.ledger.told ≡ l.list.told;
  stacks : l.ledger.stacks ≡ map (shown_numbers l.starts.items l.left_out.items) l.list.stacks;
  samples : l.ledger.samples ≡ map (edited_sample (shown_stack l.from l.omitted)) (take l.at l.list.samples);
}

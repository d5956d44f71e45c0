use Rattle.std.proofs.Common.{take}
use Rattle.source_lists.specs.checked.StrictEndings.{HaveFaults}
use Rattle.source_lists.proofs.strictness.strict_faults.Given as goal

abbrev pub invariant-loop-input : goal.invariant-loop-input
invariant-loop-input l = HaveFaults (take l.input-index l.inputs) l.lists l.faults.items

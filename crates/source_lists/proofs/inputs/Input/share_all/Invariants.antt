use Rattle.std.proofs.Common.{◌≡◌, take}
use Rattle.source_lists.proofs.inputs.Input.share_all.Given as goal

abbrev pub invariant-loop-input : goal.invariant-loop-input
invariant-loop-input l = l.shared.items ≡ take l.input-index l.inputs

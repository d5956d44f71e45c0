-- all steps before are the same
use Rattle.std.proofs.Common.{◌≡◌, ◌*◌, take}
use Rattle.folded_lines.proofs.shared_names.same_steps.Given as goal

abbrev pub invariant-loop-step : goal.invariant-loop-step
invariant-loop-step l = take (l.step * 32) l.one ≡ take (l.step * 32) l.other

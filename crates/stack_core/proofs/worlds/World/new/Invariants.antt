use Rattle.std.proofs.Common.{◌≡◌, map}
use Rattle.stack_core.specs.Schedule.{unpushed}
use Rattle.stack_core.proofs.worlds.World.new.Given as goal

abbrev pub invariant-loop-items : goal.invariant-loop-items
invariant-loop-items l = l.lanes.items ≡ map (λ items. unpushed items.items) l.yielded

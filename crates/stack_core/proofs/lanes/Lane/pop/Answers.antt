use Rattle.std.proofs.Common.{◌≡◌, true, arith}
use Rattle.stack_core.proofs.LaneMoves.{laid, can_pop-laid, popped-laid}
use Rattle.stack_core.specs.Schedule.{can_pop}
use Rattle.stack_core.proofs.lanes.Lane.pop.Goals as goal

pub returns-clause-state : goal.returns-clause-state
returns-clause-state c =
    let inside = c.self.inside in
    let can : can_pop (laid inside.told.items inside.pushed inside.popped) ≡ true =
    can_pop-laid inside.told.items inside.pushed inside.popped (omega arith) (omega arith) in
    rw (← c.self.view_is, can) (popped-laid inside.told.items inside.pushed inside.popped (omega arith) (omega arith))

use Rattle.std.proofs.Common.{◌≡◌, true, arith}
use Rattle.stack_core.proofs.LaneMoves.{laid, can_push-laid, pushed-laid}
use Rattle.stack_core.specs.Schedule.{can_push}
use Rattle.stack_core.proofs.lanes.Lane.push.Goals as goal

pub returns-clause-state : goal.returns-clause-state
returns-clause-state c =
    let inside = c.self.inside in
    let can : can_push c.args.size (laid inside.told.items inside.pushed inside.popped) ≡ true =
    can_push-laid inside.told.items inside.pushed inside.popped c.args.size c.self.invariant.0 (omega arith) (omega arith) in
    rw (← c.self.view_is, can) (pushed-laid inside.told.items inside.pushed inside.popped c.self.invariant.0 (omega arith))

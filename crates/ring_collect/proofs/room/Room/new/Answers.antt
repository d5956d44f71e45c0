use Rattle.std.proofs.Common.{rules}
use Rattle.std.proofs.lemmas.Result.{IfOk-from_err}
use Rattle.ring_collect.proofs.room.Room.new.Goals as goal

pub returns-in_err-make_rings : goal.returns-in_err-make_rings
returns-in_err-make_rings g c = search (rules, IfOk-from_err)

pub returns-in_err-with_capacity : goal.returns-in_err-with_capacity
returns-in_err-with_capacity g c = search (rules, IfOk-from_err)

pub returns-in_err-with_capacity-2 : goal.returns-in_err-with_capacity-2
returns-in_err-with_capacity-2 g c = search (rules, IfOk-from_err)

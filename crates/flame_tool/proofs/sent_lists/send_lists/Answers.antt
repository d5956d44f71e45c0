use Rattle.std.proofs.Common.{refl}
use Rattle.flame_tool.proofs.sent_lists.send_lists.Goals as goal

pub returns-then-any_fault-clause-faulty : goal.returns-then-any_fault-clause-faulty
returns-then-any_fault-clause-faulty g c = λ is. refl

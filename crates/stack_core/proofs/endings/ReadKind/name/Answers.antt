use Rattle.std.proofs.Common.{ap, sym}
use Rattle.stack_core.specs.Faults.{kind_text}
use Rattle.stack_core.proofs.endings.ReadKind.name.Goals as goal

pub returns-in-BadString : goal.returns-in-BadString
returns-in-BadString c = sym (ap kind_text c.in-BadString.is)

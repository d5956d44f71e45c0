use Rattle.std.proofs.Common.{arith, codes}
use Rattle.command_line.specs.checked.Entries.{GREATEST_COUNT}
use Rattle.command_line.proofs.ReadEntries.{count_given}
use Rattle.command_line.proofs.views.least.Goals as goal

pub returns : goal.returns
returns c = count_given c.args.entries.now (codes "least") GREATEST_COUNT c.get_one.result (omega arith) c.requires c.get_one.ensures.none c.get_one.ensures.value

use Rattle.std.proofs.Common.{codes}
use Rattle.command_line.proofs.ReadEntries.{flag_given}
use Rattle.command_line.proofs.views.is_share.Goals as goal

pub returns : goal.returns
returns c = flag_given c.args.entries.now (codes "share") c.get_flag.result c.requires c.get_flag.ensures.none c.get_flag.ensures.value c.get_flag.ensures.other

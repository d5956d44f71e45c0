use Rattle.std.proofs.Common.{codes, refl}
use Rattle.command_line.proofs.ReadEntries.{flag_given}
use Rattle.command_line.proofs.entries.naming.Goals as goal

pub returns-then-get_flag : goal.returns-then-get_flag
returns-then-get_flag c =
    let given = flag_given c.args.entries.now (codes "lines") c.get_flag.result c.requires c.get_flag.ensures.none c.get_flag.ensures.value c.get_flag.ensures.other in
    rw (← given, c.if-get_flag.true) refl

pub returns-else-get_flag : goal.returns-else-get_flag
returns-else-get_flag c =
    let given = flag_given c.args.entries.now (codes "lines") c.get_flag.result c.requires c.get_flag.ensures.none c.get_flag.ensures.value c.get_flag.ensures.other in
    rw (← given, c.if-get_flag.false) refl

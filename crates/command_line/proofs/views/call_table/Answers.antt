use Rattle.std.proofs.Common.{codes, refl}
use Rattle.command_line.proofs.ReadEntries.{flag_given}
use Rattle.command_line.proofs.views.call_table.Goals as goal

pub returns : goal.returns
returns c =
    let given = flag_given c.args.entries.now (codes "json") c.get_flag.result c.requires.json c.get_flag.ensures.none c.get_flag.ensures.value c.get_flag.ensures.other in
    let exact = flag_given c.args.entries.now (codes "exact") c.get_flag-2.result c.requires.exact c.get_flag-2.ensures.none c.get_flag-2.ensures.value c.get_flag-2.ensures.other in
    rw (c.in_ok-from_str.ensures, c.function.ensures, c.rows.ensures, given, exact) refl

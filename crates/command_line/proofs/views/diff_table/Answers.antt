use Rattle.std.proofs.Common.{arith, codes, refl}
use Rattle.command_line.specs.declared.arguments.TheConstants.{MOST_HUNDREDTHS}
use Rattle.command_line.proofs.ReadEntries.{count_given}
use Rattle.command_line.proofs.views.diff_table.Goals as goal

pub returns : goal.returns
returns c =
    let over = count_given c.args.entries.now (codes "fail-over") MOST_HUNDREDTHS c.get_one.result (omega arith) c.requires.over c.get_one.ensures.none c.get_one.ensures.value in
    rw (c.table.ensures, c.is_share.ensures, over) refl

use Rattle.std.proofs.Common.{◌∙◌, ap, arith, map}
use Rattle.std.specs.List.{fold}
use Rattle.std.proofs.lemmas.List.{take_all}
use Rattle.clap.specs.Words.{with_subcommand}
use Rattle.command_line.specs.checked.Apps.{program}
use Rattle.command_line.specs.checked.Commands.{shape_at}
use Rattle.command_line.proofs.Building.{with_next_command}
use Rattle.command_line.proofs.commands.command_line.Goals as goal

pub loop-command-preserved : goal.loop-command-preserved
loop-command-preserved c =
    with_next_command c.loop-command.line c.in_ok-line-2.line program _ c.loop-command.command-index _
    (omega arith) c.in_ok-line-2.ensures c.loop-command.invariant

pub returns : goal.returns
returns c =
    c.loop-command.invariant
    ∙ ap (λ commands. fold with_subcommand program (map shape_at commands)) (take_all c.loop-command.command-index _ (omega arith))

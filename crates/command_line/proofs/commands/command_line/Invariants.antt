-- the commands so far
use Rattle.std.proofs.Common.{◌≡◌, map, take}
use Rattle.std.specs.List.{fold}
use Rattle.clap.specs.Words.{app_of, with_subcommand}
use Rattle.command_line.specs.checked.Apps.{program}
use Rattle.command_line.specs.checked.Commands.{shape_at}
use Rattle.command_line.proofs.commands.command_line.Given as goal

abbrev pub invariant-loop-command : goal.invariant-loop-command
invariant-loop-command l = app_of l.line ≡ fold with_subcommand program (map shape_at (take l.command-index l.command-items))

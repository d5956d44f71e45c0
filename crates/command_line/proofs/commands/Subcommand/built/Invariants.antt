-- the arguments of the parts so far
use Rattle.std.proofs.Common.{◌≡◌, map, take}
use Rattle.std.specs.Prelude.{flat_map}
use Rattle.clap.specs.Words.{app_of}
use Rattle.command_line.specs.CommandLine.{command}
use Rattle.command_line.specs.checked.Apps.{as_app}
use Rattle.command_line.specs.checked.Commands.{rule_at, shape_at}
use Rattle.command_line.proofs.commands.Subcommand.built.Given as goal

abbrev pub invariant-loop-part : goal.invariant-loop-part
invariant-loop-part l = app_of l.command ≡ as_app (command (shape_at l.fn.self).name (flat_map (λ part. map rule_at part.now) (take l.part-index l.part-items)))

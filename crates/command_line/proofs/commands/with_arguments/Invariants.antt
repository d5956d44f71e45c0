-- the arguments so far
use Rattle.std.proofs.Common.{◌≡◌, ◌++◌, List, map, take}
use Rattle.clap.specs.Walk.{Rule, Text}
use Rattle.clap.specs.Words.{app_of}
use Rattle.command_line.specs.CommandLine.{command}
use Rattle.command_line.specs.checked.Apps.{as_app}
use Rattle.command_line.specs.checked.Commands.{rule_at}
use Rattle.command_line.proofs.commands.with_arguments.Given as goal

abbrev pub invariant-loop-argument : goal.invariant-loop-argument
invariant-loop-argument l = (name : Text) (rules : List Rule) → app_of l.fn.command ≡ as_app (command name rules)
    → app_of l.command ≡ as_app (command name (rules ++ map rule_at (take l.argument-index l.arguments)))

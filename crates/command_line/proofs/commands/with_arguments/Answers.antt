use Rattle.std.proofs.Common.{◌∙◌, ◌++◌, List, ap, append-nil, arith, map, sym}
use Rattle.std.proofs.lemmas.List.{take_all}
use Rattle.clap.specs.Walk.{Rule}
use Rattle.command_line.specs.CommandLine.{command}
use Rattle.command_line.specs.checked.Apps.{as_app}
use Rattle.command_line.specs.checked.Commands.{rule_at}
use Rattle.command_line.proofs.Building.{with_next_argument}
use Rattle.command_line.proofs.commands.with_arguments.Goals as goal

pub loop-argument-init : goal.loop-argument-init
loop-argument-init c = λ name rules is. is ∙ ap (λ (rules : List Rule). as_app (command name rules)) (sym (append-nil rules))

pub loop-argument-preserved : goal.loop-argument-preserved
loop-argument-preserved c = λ name rules is.
    with_next_argument c.loop-argument.command c.in_ok-command.command c.built.result name rules
    c.args.arguments.now c.loop-argument.argument-index _ (omega arith)
    c.in_ok-command.ensures (c.loop-argument.invariant name rules is) c.built.ensures

pub returns : goal.returns
returns c = λ name rules is.
    c.loop-argument.invariant name rules is
    ∙ ap (λ items. as_app (command name (rules ++ map rule_at items))) (take_all c.loop-argument.argument-index c.args.arguments.now (omega arith))

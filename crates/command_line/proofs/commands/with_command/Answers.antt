use Rattle.std.proofs.lemmas.Result.{IfOk-weaker}
use Rattle.command_line.proofs.Building.{with_command}
use Rattle.command_line.proofs.commands.with_command.Goals as goal

pub returns-in-Ok : goal.returns-in-Ok
returns-in-Ok c =
    IfOk-weaker _ _ _ (λ more added. with_command c.args.line more c.in-Ok.built c.args.command.now c.in-Ok.ensures added) c.subcommand.ensures

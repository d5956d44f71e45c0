use Rattle.std.proofs.Common.{◌∙◌, ap, arith, map}
use Rattle.std.specs.Prelude.{flat_map}
use Rattle.std.proofs.lemmas.List.{take_all}
use Rattle.clap.specs.Simple.{new_app}
use Rattle.command_line.specs.CommandLine.{command}
use Rattle.command_line.specs.checked.Apps.{as_app}
use Rattle.command_line.specs.checked.Commands.{rule_at, shape_at}
use Rattle.command_line.proofs.Building.{with_all_arguments, with_next_part}
use Rattle.command_line.proofs.commands.Subcommand.built.Goals as goal

pub loop-part-init : goal.loop-part-init
loop-part-init c = c.described-command.ensures ∙ ap new_app c.name.ensures

pub loop-part-preserved : goal.loop-part-preserved
loop-part-preserved c =
    with_next_part c.in_ok-command.command (shape_at c.args.self.now).name c.arguments-part-items.result.now (λ part. map rule_at part.now)
    c.loop-part.part-index _ (omega arith) (c.in_ok-command.ensures _ _ c.loop-part.invariant)

pub returns : goal.returns
returns c =
    let shape = shape_at c.args.self.now in
    let parts = c.arguments-part-items in
    c.loop-part.invariant
    ∙ ap (λ items. as_app (command shape.name (flat_map (λ part. map rule_at part.now) items))) (take_all c.loop-part.part-index parts.result.now (omega arith))
    ∙ ap (λ rules. as_app (command shape.name rules)) parts.ensures
    ∙ ap as_app (with_all_arguments c.args.self.now)

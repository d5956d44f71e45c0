use Rattle.std.proofs.Common.{◌∙◌, ap}
use Rattle.command_line.specs.Plans.{svg_plan}
use Rattle.command_line.specs.checked.Entries.{entries_of}
use Rattle.command_line.specs.declared.plans.Form.TheVariants as form
use Rattle.command_line.specs.declared.plans.View.TheVariants.{Graph}
use Rattle.command_line.proofs.entered.svg_plan.Goals as goal

pub returns : goal.returns
returns c =
    (λ i. record (c.in_ok-plan_with.ensures i) {
      options = c.in_ok-still_options.ensures i;
      output = c.in_ok-picture_path.ensures i;
      form = form.Picture (c.in_ok-picture.ensures i);
    })
    ∙ ap (λ width. record (svg_plan (entries_of c.args.entries.now)) { view = Graph width }) c.width.ensures

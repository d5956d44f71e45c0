use Rattle.std.proofs.Common.{◌∙◌, Some, ap, sym}
use Rattle.std.specs.Prelude.{option_map}
use Rattle.std.proofs.lemmas.Result.{IfOk-weaker}
use Rattle.command_line.specs.Plans.{plan_with}
use Rattle.command_line.specs.checked.Entries.{entries_of}
use Rattle.command_line.proofs.entered.view_plan.Goals as goal

pub returns : goal.returns
returns c =
    let viewed = ap (option_map (plan_with c.args.name.now (entries_of c.args.entries.now))) c.view.ensures in
    IfOk-weaker c.plan_with.result _ _ (λ plan is. viewed ∙ ap (λ p. Some p) (sym is)) c.plan_with.ensures

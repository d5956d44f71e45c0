use Rattle.std.proofs.Common.{◌≡◌, ◌∙◌, Some, ap, rules, subst, sym}
use Rattle.std.specs.Prelude.{IfErr, IfOk}
use Rattle.clap.specs.Words.{subcommand_rows_of}
use Rattle.command_line.specs.Plans.{IsFaultAmong, entered_plan, own_fault}
use Rattle.command_line.specs.checked.Entries.{entries_of}
use Rattle.command_line.proofs.entered.planned.Goals as goal

pub returns-clause-plan : goal.returns-clause-plan
returns-clause-plan c =
    let rows : subcommand_rows_of c.args.matches.now ≡ Some (c.in-Some.name.now, entries_of c.in-Some.entries.now) = search rules in
    subst (λ entered. IfOk c.command_plan.result (λ plan. entered_plan entered ≡ Some plan)) (sym rows) c.command_plan.ensures.plan

pub returns-clause-refused : goal.returns-clause-refused
returns-clause-refused c =
    let rows : subcommand_rows_of c.args.matches.now ≡ Some (c.in-Some.name.now, entries_of c.in-Some.entries.now) = search rules in
    subst (λ entered. IfErr c.command_plan.result (IsFaultAmong (own_fault entered))) (sym rows) c.command_plan.ensures.refused

pub returns-clause-passes : goal.returns-clause-passes
returns-clause-passes c = λ none.
    let rows : subcommand_rows_of c.args.matches.now ≡ Some (c.in-Some.name.now, entries_of c.in-Some.entries.now) = search rules in
    c.command_plan.ensures.passes (sym (ap own_fault rows) ∙ none)

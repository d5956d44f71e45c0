use Rattle.std.proofs.Common.{◌≡◌, ◌∙◌, Some, ap, codes, false, rules, subst, sym, true}
use Rattle.std.specs.Str.{bytes_eq}
use Rattle.command_line.specs.Plans.{IsFaultAmong}
use Rattle.command_line.specs.checked.Entries.{entries_of}
use Rattle.command_line.specs.declared.plans.PlanFault.TheVariants.{OutOfMemory}
use Rattle.command_line.proofs.PlannedWords.{among_none, planned_live, planned_svg, planned_types, planned_view}
use Rattle.command_line.proofs.entered.command_plan.Goals as goal

pub returns-in_err-check_entries-clause-passes : goal.returns-in_err-check_entries-clause-passes
returns-in_err-check_entries-clause-passes c = λ none.
    let refused = subst (λ kinds. IsFaultAmong kinds c.in_err-check_entries.field-0.0) none c.in_err-check_entries.ensures.refused in
    let memory : c.in_err-check_entries.field-0.0 ≡ OutOfMemory = among_none _ refused in
    search rules

pub returns-in_ok-types_plan-clause-plan : goal.returns-in_ok-types_plan-clause-plan
returns-in_ok-types_plan-clause-plan c =
    let types : bytes_eq c.args.name.now (codes "types") ≡ true = search rules in
    planned_types c.args.name.now (entries_of c.args.entries.now) c.in_ok-check_entries.ensures.meant types
    ∙ ap (λ plan. Some plan) (sym c.in_ok-types_plan.ensures)

pub returns-in_ok-live_plan-clause-plan : goal.returns-in_ok-live_plan-clause-plan
returns-in_ok-live_plan-clause-plan c =
    let types : bytes_eq c.args.name.now (codes "types") ≡ false = search rules in
    let live : bytes_eq c.args.name.now (codes "live") ≡ true = search rules in
    planned_live c.args.name.now (entries_of c.args.entries.now) c.in_ok-check_entries.ensures.meant types live
    ∙ ap (λ plan. Some plan) (sym c.in_ok-live_plan.ensures)

pub returns-in_ok-svg_plan-clause-plan : goal.returns-in_ok-svg_plan-clause-plan
returns-in_ok-svg_plan-clause-plan c =
    let types : bytes_eq c.args.name.now (codes "types") ≡ false = search rules in
    let live : bytes_eq c.args.name.now (codes "live") ≡ false = search rules in
    let svg : bytes_eq c.args.name.now (codes "svg") ≡ true = search rules in
    planned_svg c.args.name.now (entries_of c.args.entries.now) c.in_ok-check_entries.ensures.meant types live svg
    ∙ ap (λ plan. Some plan) (sym c.in_ok-svg_plan.ensures)

pub returns-in_ok-view_plan-clause-plan : goal.returns-in_ok-view_plan-clause-plan
returns-in_ok-view_plan-clause-plan c =
    let types : bytes_eq c.args.name.now (codes "types") ≡ false = search rules in
    let live : bytes_eq c.args.name.now (codes "live") ≡ false = search rules in
    let svg : bytes_eq c.args.name.now (codes "svg") ≡ false = search rules in
    planned_view c.args.name.now (entries_of c.args.entries.now) c.in_ok-check_entries.ensures.meant types live svg
    ∙ c.in_ok-view_plan.ensures

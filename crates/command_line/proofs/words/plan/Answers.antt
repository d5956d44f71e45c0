use Rattle.std.proofs.Common.{◌≡◌, ◌∙◌, map, string_bytes, subst, sym, true, Some}
use Rattle.std.proofs.lemmas.Result.{IfOk-weaker}
use Rattle.std.specs.Prelude.{IfOk, IfErr}
use Rattle.clap.proofs.WalkLemmas.{both}
use Rattle.clap.specs.Simple.{subcommand_rows_of}
use Rattle.clap.specs.Walk.{is_empty}
use Rattle.command_line.specs.Plans.{IsFaultAmong, entered_plan, own_fault}
use Rattle.command_line.proofs.PlannedWords.{entered_reads, entered_rows, error_kind, fault_among, fault_of_memory, own_alone, no_fault, only_memory, plan_asks, none_in, planned_own}
use Rattle.command_line.proofs.words.plan.Goals as goal

pub planned-requires : goal.planned-requires
planned-requires c =
    let none = no_fault _ (map string_bytes c.args.words.now) c.in_ok-line.ensures c.in-Ok.ensures.kinds in
    entered_reads (map string_bytes c.args.words.now) none _ (entered_rows _ _ c.in-Ok.matches c.in_ok-line.ensures c.in-Ok.ensures.matches)

pub returns-in-Ok : goal.returns-in-Ok
returns-in-Ok c =
    let words = map string_bytes c.args.words.now in
    let none = no_fault _ words c.in_ok-line.ensures c.in-Ok.ensures.kinds in
    let rows = entered_rows _ _ c.in-Ok.matches c.in_ok-line.ensures c.in-Ok.ensures.matches in
    let own = own_alone words _ none rows in
    let read = entered_reads words none _ rows in
    let is_plan = c.planned.ensures.plan in
    record {
      plan = subst (λ entered. IfOk c.planned.result (λ plan. entered_plan entered ≡ Some plan)) rows is_plan;
      taken = IfOk-weaker _ _ _ (λ plan is. sym own ∙ planned_own (subcommand_rows_of c.in-Ok.matches) plan is) is_plan;
      refused = subst (λ kinds. IfErr c.planned.result (IsFaultAmong kinds)) own c.planned.ensures.refused;
      passes = λ taken.
          c.planned.ensures.passes (none_in _ (subst (λ entered. is_empty (own_fault entered) ≡ true) (sym rows) (both _ _ taken).1));
      pair = IfOk-weaker _ _ _ (λ plan is. (plan_asks _ plan read is).pair) is_plan;
      every = IfOk-weaker _ _ _ (λ plan is. (plan_asks _ plan read is).every) is_plan;
      page = IfOk-weaker _ _ _ (λ plan is. (plan_asks _ plan read is).page) is_plan;
      picture = IfOk-weaker _ _ _ (λ plan is. (plan_asks _ plan read is).picture) is_plan;
      alone = IfOk-weaker _ _ _ (λ plan is. (plan_asks _ plan read is).alone) is_plan;
      types = IfOk-weaker _ _ _ (λ plan is. (plan_asks _ plan read is).types) is_plan;
      live = IfOk-weaker _ _ _ (λ plan is. (plan_asks _ plan read is).live) is_plan;
      pages = IfOk-weaker _ _ _ (λ plan is. (plan_asks _ plan read is).pages) is_plan;
    }

pub returns-in-Err-clause-refused : goal.returns-in-Err-clause-refused
returns-in-Err-clause-refused c =
    let has = error_kind _ (map string_bytes c.args.words.now) c.in-Err.error c.in_ok-line.ensures c.in-Err.ensures.kinds in
    fault_among (map string_bytes c.args.words.now) _ _ c.in-Err.error c.parse_refusal.result has c.parse_refusal.ensures

pub returns-in-Err-clause-passes : goal.returns-in-Err-clause-passes
returns-in-Err-clause-passes c = λ taken.
    let memory = only_memory _ (map string_bytes c.args.words.now) c.in-Err.error c.in_ok-line.ensures c.in-Err.ensures.passes (both _ _ taken).0 in
    fault_of_memory (map string_bytes c.args.words.now) c.in-Err.error c.parse_refusal.result memory c.parse_refusal.ensures

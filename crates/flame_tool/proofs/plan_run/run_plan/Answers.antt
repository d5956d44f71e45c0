use Rattle.std.proofs.Common.{◌≡◌, ◌∙◌, ℕ, List, [], None, IfErr, IfSome, arith, false, refl, subst, sym}
use Rattle.std.specs.Prelude.{IsSome, true}
use Rattle.command_line.specs.Plans.{limit_of}
use Rattle.command_line.specs.declared.plans.Form.TheVariants as form
use Rattle.function_sums.specs.declared.call_sides.CallSide.TheVariants.{Callers, Callees}
use Rattle.source_views.specs.Messages.{Tells, message_of_failure}
use Rattle.source_views.specs.declared.failures.Failure.{Failure}
use Rattle.source_views.specs.declared.failures.Failure.TheVariants.{TooManyFiles}
use Rattle.flame_tool.specs.Pages.{asked_heading, called_text, page_text, peeked_text, picture_text, told_in}
use Rattle.flame_tool.proofs.PageLemmas.{orderless_page}
use Rattle.source_views.specs.Texts.{told_text, view_text}
use Rattle.flame_tool.specs.KnownFacts.{known_sources}
use Rattle.flame_tool.specs.KnownRuns.{PlanShows, as_files, change}
use Rattle.flame_tool.specs.Runs.{ShowsFront, ShowsSamples}
use Rattle.flame_tool.specs.StrictRuns.{has_strict_fault}
use Rattle.flame_tool.specs.TypeRuns.{ShowsTypesFront, known_profile}
use Rattle.flame_tool.specs.checked.Failures.{Fails, FailsStrictly, TellsGrowth, exit_status}
use Rattle.flame_tool.specs.checked.TypeFailures.{FailsTypes}
use Rattle.flame_tool.proofs.ExitStatuses.{at_success, faulty_at_one, few_but_at_two, flushed_at_success, front_at_three, kept_at, many_at_two, of_answer, status_within, unfailed_but_at_three}
use Rattle.flame_tool.proofs.RunEndings.{form_exactly, orderless, plainly}
use Rattle.flame_tool.proofs.SaidSources.{EndsOfSources, EndsOfTypes, ends_of_sources, ends_of_types, failure_told}
use Rattle.flame_tool.proofs.ToldEndings.{is_none}
use Rattle.flame_tool.proofs.TypeEndings.{err_where, ok_where}
use Rattle.flame_tool.proofs.UntouchedOutputs.{strict_untouched, untouched_at_fault, untouched_at_table_fault}
use Rattle.flame_tool.proofs.plan_run.run_plan.Goals as goal

pub returns : goal.returns
returns g c =
    let plan = c.args.plan in
    let input = g.F.Files.known_input c.args.files.now in
    let named = g.F.Files.known_file c.args.files.now in
    let sources = known_sources plan input named in
    let profile = known_profile plan named in
    let shown = c.show_plan-shown in
    let result = shown.result in
    let ran = shown.ensures in
    let showed = ran.showed in
    let old = g.W.Outlet.contents c.args.out.now in
    let new = g.W.Outlet.contents shown.new.out in
    let before = g.W.Outlet.failures c.args.out.now in
    let after = g.W.Outlet.failures shown.new.out in
    let contents = g.E.Outlet.contents in
    let failures = g.E.Outlet.failures in
    let start = c.args.err.now in
    let mid = shown.new.err in
    let end = c.end_run.new.err in
    let unwanted = λ (none : g.F.Files.may_have_terminal ≡ false). c.new-advice.ensures ∙ is_none c.is_error_terminal.result g.F.Files.may_have_terminal c.is_error_terminal.ensures.terminal none in
    let told = λ (none : g.F.Files.may_have_terminal ≡ false). subst (λ (files : List (List ℕ)). IfErr result (λ failure. Tells (message_of_failure files failure) (contents mid) (contents end) (failures mid) (failures end))) c.get.ensures (c.end_run.ensures.told (unwanted none)) in
    let said = λ (none : g.F.Files.may_have_terminal ≡ false) (samples : ShowsSamples plan.form). subst (λ start. EndsOfSources (contents start) (contents end) (failures start) (failures end) plan sources (exit_status result)) (c.await_input.ensures.untold none)
    (ends_of_sources contents failures plan sources _ mid end result (showed.says none samples) c.end_run.ensures.untold (told none)) in
    let said_types = λ (none : g.F.Files.may_have_terminal ≡ false) (types : plan.form ≡ form.Types). subst (λ start. EndsOfTypes (contents start) (contents end) (failures start) (failures end) plan.files profile (exit_status result)) (c.await_input.ensures.untold none)
    (ends_of_types contents failures plan.files profile _ mid end result ((ran.typed types).says none) c.end_run.ensures.untold (told none)) in
    let types = ok_where _ _ result (λ is. (ran.typed is).done) in
    let fails_types = λ (failure : Failure). plan.form ≡ form.Types → IfSome profile (FailsTypes old new failure) in
    let types_err = err_where _ _ result (λ is. (ran.typed is).failed) in
    let grown = of_answer (λ is_over. IfSome sources (TellsGrowth is_over plan)) result showed.grown in
    subst (λ answer. PlanShows plan (as_files input named g.F.Files.may_have_terminal) answer (change old new before after) (change (contents start) (contents end) (failures start) (failures end)) (g.W.Outlet.is_flushed shown.new.out)) (sym c.end_run.ensures.status) (record {
      status = status_within result;
      flushed = λ success. flushed_at_success before after result success showed.flushed;
      unfailed = λ other. unfailed_but_at_three _ before after result other showed.flushed;
      unwritten = λ one. kept_at old new 1 result (omega arith) (omega arith) one showed.kept;
      refused = λ two. kept_at old new 2 result (omega arith) (omega arith) two showed.kept;
      many = λ two. many_at_two result two ran.many;
      few = λ other. few_but_at_two result other ran.few;
      shown = λ success. at_success result success showed.done;
      shown_exactly = λ success as_text is tells. form_exactly plan old new form.Text (λ _ lists. view_text plan.view lists [] None) tt
          (λ facts lists order. orderless (told_in plan facts lists) lists order plan.options.every plan.view is ∙ plainly (told_in plan facts lists) lists plan.view tells) sources (at_success result success showed.done) as_text;
      shown_with_facts = λ success as_text is. form_exactly plan old new form.Text (λ facts lists. told_text (told_in plan facts lists) plan.view lists [] None) tt
          (λ facts lists order. orderless (told_in plan facts lists) lists order plan.options.every plan.view is) sources (at_success result success showed.done) as_text;
      shown_page = λ success page as_page is. form_exactly plan old new (form.Page page) (λ facts lists. page_text plan facts page lists [] None) tt
          (λ facts lists order. sym (orderless_page (asked_heading plan facts page lists) plan.view lists order plan.options.every is)) sources (at_success result success showed.done) as_page;
      shown_svg = λ success picture. form_exactly plan old new (form.Picture picture) (λ facts. picture_text plan facts picture) tt (λ facts lists order. refl) sources (at_success result success showed.done);
      shown_callers = λ success table. form_exactly plan old new (form.Callers table) (called_text Callers table plan) tt (λ facts lists order. refl) sources (at_success result success showed.done);
      shown_callees = λ success table. form_exactly plan old new (form.Callees table) (called_text Callees table plan) tt (λ facts lists order. refl) sources (at_success result success showed.done);
      shown_peek = λ success table. form_exactly plan old new (form.Peek table) (peeked_text table plan) tt (λ facts lists order. refl) sources (at_success result success showed.done);
      faulty = λ one. faulty_at_one (λ failure. IfSome sources (Fails plan old new failure)) result one showed.failed;
      partly = λ three. front_at_three (λ failure. IfSome sources (Fails plan old new failure)) (IfSome sources (ShowsFront plan old new)) old new (λ fault front. front) result three showed.kept showed.failed;
      untouched = λ samples. untouched_at_fault _ plan old new before after samples sources result showed.done showed.failed showed.kept showed.flushed;
      strict = λ success samples strict. at_success result success (showed.strict samples strict);
      strict_faulty = λ one samples strict. faulty_at_one (λ failure. IfSome sources (λ sources. FailsStrictly (has_strict_fault plan.options sources) failure)) result one (showed.strict_failed samples strict);
      strict_untouched = λ samples strict. strict_untouched (has_strict_fault plan.options) sources _ old new before after result (showed.strict samples strict) (showed.strict_failed samples strict) showed.kept showed.flushed;
      limit = λ four. (of_answer (λ is_over. is_over ≡ true → IsSome (limit_of plan.view)) result showed.limit).1 four refl;
      grown = grown.1;
      not_grown = grown.0;
      types = λ success. at_success result success types;
      types_faulty = λ one. faulty_at_one fails_types result one types_err;
      types_partly = λ three. front_at_three fails_types (plan.form ≡ form.Types → IfSome profile (ShowsTypesFront old new)) old new (λ fault front. front) result three showed.kept types_err;
      types_untouched = untouched_at_table_fault _ old new before after _ profile result types types_err showed.kept showed.flushed;
      told = λ none low samples. (said none samples).low low;
      told_grown = λ none four samples. (said none samples).grown four;
      told_types = λ none zero types. (said_types none types).shown zero;
      told_types_fault = λ none one types. (said_types none types).faulty one;
      told_many = λ none two.
          let many = many_at_two result two (λ is. is) in
          subst (λ start. Tells (message_of_failure plan.files TooManyFiles) (contents start) (contents end) (failures start) (failures end)) (ran.untold_many many ∙ c.await_input.ensures.untold none)
          (subst (λ result. IfErr result (λ failure. Tells (message_of_failure plan.files failure) (contents mid) (contents end) (failures mid) (failures end))) many (told none));
      told_failure = λ none three. failure_told (contents start) (contents end) (failures start) (failures end) plan sources profile (exit_status result) three (said none) (said_types none);
    })

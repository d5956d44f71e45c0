use Rattle.std.proofs.Common.{rules, ◌≡◌, ◌∙◌, ap, IfSome, OnOk, List, Option, Some, Result, Ok, Err, ℕ, inr, map, refl, subst, sym, true, false}
use Rattle.std.specs.Prelude.{Bool, not}
use Rattle.std.proofs.lemmas.Bool.{false≢true, true≢false}
use Rattle.std.proofs.lemmas.Result.{IfErr-weaker}
use Rattle.source_views.specs.Failures.{failure_of_run}
use Rattle.source_views.specs.declared.failures.Failure.TheVariants.{OutOfMemory}
use Rattle.std.specs.List.{AllZip}
use Rattle.ring_collect.specs.Collection.{AreWhole, seen_as_rest}
use Rattle.merged_stacks.specs.Timeline.{samples_of}
use Rattle.run_options.specs.declared.formats.Format.{Format}
use Rattle.flame_tool.specs.Pages.{shown_text}
use Rattle.flame_tool.specs.declared.run_facts.RunFacts.{RunFacts}
use Rattle.source_lists.specs.Sources.{asked_rests, known_inputs, whole_weight}
use Rattle.flame_tool.specs.KnownFacts.{facts_of, wanted_rests}
use Rattle.flame_tool.specs.Runs.{Shows, wanted_lists}
use Rattle.flame_tool.specs.checked.SummedPlans.{is_summed}
use Rattle.source_lists.specs.Summing.{IsFound}
use Rattle.flame_tool.proofs.FoundSources.{found_strictly}
use Rattle.flame_tool.proofs.SummedTexts.{alike_growth}
use Rattle.source_lists.proofs.FoundRests.{found_shown}
use Rattle.flame_tool.specs.StrictRuns.{HasPlainFault, has_strict_fault}
use Rattle.flame_tool.specs.checked.Failures.{Fails, FailsStrictly, TellsGrowth}
use Rattle.flame_tool.proofs.KnownSources.{AreCollected, at_known, err_if_known, err_shown, if_known, lists_faultless, ok_if_known, ok_shown, growth_shown, are_alike}
use Rattle.flame_tool.proofs.GrownFunctions.{limit_told}
use Rattle.flame_tool.proofs.RunEndings.{same_shown}
use Rattle.flame_tool.proofs.StrictEndings.{told_strictly, unsent}
use Rattle.source_views.specs.Texts.{growth_line}
use Rattle.flame_tool.specs.ToldRuns.{TellsSources}
use Rattle.flame_tool.proofs.SaidSources.{said_behind, said_failing, said_none, told_reported, untold_tells}
use Rattle.flame_tool.proofs.views_run.show_sources.Goals as goal

-- the sources are read strictly where they are not sound
asked_strictly : (is_strict sound : Bool) → (is_strict ≡ false → sound ≡ true) → sound ≡ false → is_strict ≡ true
asked_strictly true sound loose unsound = refl
asked_strictly false sound loose unsound = absurd (true≢false (sym (loose refl) ∙ unsound))

unsound_faulty : (faulty sound : Bool) → sound ≡ false → sound ≡ not faulty → faulty ≡ true
unsound_faulty true sound unsound is = refl
unsound_faulty false sound unsound is = absurd (false≢true (sym unsound ∙ is))

sound_faultless : (faulty sound : Bool) → sound ≡ true → sound ≡ not faulty → faulty ≡ false
sound_faultless true sound shown is = absurd (true≢false (sym shown ∙ is))
sound_faultless false sound shown is = refl

always : {T E P : Type 0} (result : Result T E) → P → OnOk result P
always (Ok done) holds = holds
always (Err error) holds = tt

-- by what is known of the sources that are read again
soundness : (kept inputs : List (Format × Option (List ℕ))) (sources : List (Format × List ℕ)) (Tells : List (Format × List ℕ) → Type 0) → kept ≡ inputs → known_inputs inputs ≡ Some sources → IfSome (known_inputs kept) Tells → Tells sources
soundness kept inputs sources Tells same is tells = at_known Tells sources (ap known_inputs same ∙ is) tells

pub returns-clause-showed : goal.returns-clause-showed
returns-clause-showed g c =
    let plan = c.args.plan.now in
    let known = known_inputs c.args.inputs.items in
    let run = c.in_ok-shown.shown in
    let result = c.send_lists.result in
    let sent = c.send_lists.ensures in
    let old = g.W.Outlet.contents c.args.out.now in
    let new = g.W.Outlet.contents c.send_lists.new.out in
    let start = c.args.err.now in
    let reported = c.report_sources.new.err in
    let facts : RunFacts = record { whole = c.in-Some.whole; types = c.of.result } in
    let found : (sources : List (Format × List ℕ)) → known ≡ Some sources → AllZip (IsFound (is_summed plan)) (asked_rests plan.options sources) (map seen_as_rest c.in_ok-run.run'.kept.lists) = λ sources is. at_known _ sources is c.in_ok-run.ensures.found in
    let collected : (sources : List (Format × List ℕ)) → known ≡ Some sources → AreCollected plan sources run.lists run.order = λ sources is. record { found = subst (AllZip (IsFound (is_summed plan)) (wanted_rests plan sources)) (sym c.in_ok-shown.ensures.lists) (found_shown (is_summed plan) plan.from plan.omit (asked_rests plan.options sources) (map seen_as_rest c.in_ok-run.run'.kept.lists) (found sources is)); ordered = c.in_ok-shown.ensures.order } in
    let text : (sources : List (Format × List ℕ)) → known ≡ Some sources → shown_text plan facts (samples_of run.lists) run.order plan.options.every ≡ shown_text plan (facts_of plan.options sources) (samples_of run.lists) run.order plan.options.every = λ sources is.
    let weight : c.in_ok-run.run'.whole_weight ≡ Some (whole_weight plan.options sources) = at_known _ sources is c.in_ok-run.ensures.weight in
    let same : whole_weight plan.options sources ≡ c.in-Some.whole = cc (weight, c.in-Some.is) in
    let told = subst (λ (inputs : List (Format × Option (List ℕ))). known_inputs inputs ≡ Some sources) (sym c.deref.ensures.value) is in
    sym (same_shown plan (facts_of plan.options sources) facts (samples_of run.lists) run.order plan.options.every same (λ tells. sym (c.of.ensures ∙ at_known _ sources told (c.in_ok-types.ensures tells)))) in
    let faultless : plan.is_strict ≡ true → (sources : List (Format × List ℕ)) → known ≡ Some sources → has_strict_fault plan.options sources ≡ false = λ strict sources is.
    let tells = soundness c.in_ok-kept.kept.items c.args.inputs.items sources (λ sources. AreWhole (asked_rests plan.options sources) c.lists.result.now → c.in_ok-report_sources.field-0 ≡ not (has_strict_fault plan.options sources))
    (c.in_ok-kept.ensures strict ∙ c.deref-2.ensures.value) is (c.in_ok-report_sources.ensures.strict strict) in
    sound_faultless (has_strict_fault plan.options sources) _ c.if-not-branch.false (tells (subst (AreWhole (asked_rests plan.options sources)) (sym c.lists.ensures.lists) (found_strictly plan (asked_rests plan.options sources) (map seen_as_rest c.in_ok-run.run'.kept.lists) strict (found sources is)))) in record {
      done = ok_if_known result known (λ _. Shows plan old new) (λ sources is. ok_shown plan sources run.lists run.order (collected sources is) result old new _ (text sources is) sent.faultless sent.ok);
      failed = err_if_known result known (Fails plan old new) (λ sources is. IfErr-weaker result _ _ (err_shown plan sources run.lists run.order (collected sources is) old new _ (text sources is)) sent.err);
      kept = search rules;
      strict = λ _ strict. ok_if_known result known (λ _ sources. has_strict_fault plan.options sources ≡ false) (λ sources is. always result (faultless strict sources is));
      strict_failed = λ _ strict. err_if_known result known (λ failure sources. FailsStrictly (has_strict_fault plan.options sources) failure)
          (λ sources is. IfErr-weaker result _ _ (unsent run.lists _ _ _ (has_strict_fault plan.options sources) (faultless strict sources is) (lists_faultless plan sources run.lists (faultless strict sources is) (collected sources is).found)) sent.err);
      grown = ok_if_known result known (λ is_over. TellsGrowth is_over plan) (λ sources is. growth_shown plan sources run.lists run.order (collected sources is) result sent.growth);
      limit = limit_told plan.view (samples_of run.lists) result sent.growth;
      says = λ unwanted _. said_behind g.E.Outlet.contents g.E.Outlet.failures plan known (growth_line plan.view (samples_of run.lists)) start reported c.send_lists.new.err result sent.untold sent.untold_err sent.told_growth
          (λ sources is. alike_growth (samples_of run.lists) (wanted_lists plan sources) (are_alike plan sources run.lists run.order (collected sources is)) plan.view)
          (subst (λ err. IfSome known (TellsSources plan (g.E.Outlet.contents err) (g.E.Outlet.contents reported) (g.E.Outlet.failures err) (g.E.Outlet.failures reported))) (c.in_ok-run.ensures.untold unwanted)
          (told_reported _ _ _ _ plan c.in_ok-kept.kept.items c.args.inputs.items c.in_ok-run.run'.kept.lists c.lists.result.now found c.lists.ensures.lists (λ strict. c.in_ok-kept.ensures strict ∙ c.deref-2.ensures.value)
          (λ loose. c.in_ok-report_sources.ensures.told loose unwanted) (λ strict. c.in_ok-report_sources.ensures.told_strict strict unwanted)));
      flushed = search rules;
    }

-- the sources may not be shown
pub returns-then-not-branch-clause-showed : goal.returns-then-not-branch-clause-showed
returns-then-not-branch-clause-showed g c =
    let plan = c.args.plan.now in
    let known = known_inputs c.args.inputs.items in
    let reported = c.report_sources.new.err in
    let found : (sources : List (Format × List ℕ)) → known ≡ Some sources → AllZip (IsFound (is_summed plan)) (asked_rests plan.options sources) (map seen_as_rest c.in_ok-run.run'.kept.lists) = λ sources is. at_known _ sources is c.in_ok-run.ensures.found in record {
      done = tt;
      failed = if_known known (HasPlainFault plan) (λ sources _. told_strictly plan sources (asked_strictly plan.is_strict _ c.in_ok-report_sources.ensures.loose c.if-not-branch.true));
      kept = search rules;
      strict = λ _ _. tt;
      strict_failed = λ _ strict. if_known known (λ sources. has_strict_fault plan.options sources ≡ true)
          (λ sources is.
          let tells = soundness c.in_ok-kept.kept.items c.args.inputs.items sources (λ sources. AreWhole (asked_rests plan.options sources) c.lists.result.now → c.in_ok-report_sources.field-0 ≡ not (has_strict_fault plan.options sources))
          (c.in_ok-kept.ensures strict ∙ c.deref-2.ensures.value) is (c.in_ok-report_sources.ensures.strict strict) in
          unsound_faulty (has_strict_fault plan.options sources) _ c.if-not-branch.true (tells (subst (AreWhole (asked_rests plan.options sources)) (sym c.lists.ensures.lists) (found_strictly plan (asked_rests plan.options sources) (map seen_as_rest c.in_ok-run.run'.kept.lists) strict (found sources is)))));
      grown = tt;
      limit = tt;
      says = λ unwanted _. subst (λ err. IfSome known (TellsSources plan (g.E.Outlet.contents err) (g.E.Outlet.contents reported) (g.E.Outlet.failures err) (g.E.Outlet.failures reported))) (c.in_ok-run.ensures.untold unwanted)
          (told_reported _ _ _ _ plan c.in_ok-kept.kept.items c.args.inputs.items c.in_ok-run.run'.kept.lists c.lists.result.now found c.lists.ensures.lists (λ strict. c.in_ok-kept.ensures strict ∙ c.deref-2.ensures.value)
          (λ loose. c.in_ok-report_sources.ensures.told loose unwanted) (λ strict. c.in_ok-report_sources.ensures.told_strict strict unwanted));
      flushed = search rules;
    }

-- there was no memory to show them
pub returns-in_err-shown-clause-showed : goal.returns-in_err-shown-clause-showed
returns-in_err-shown-clause-showed g c =
    let plan = c.args.plan.now in
    let known = known_inputs c.args.inputs.items in
    let reported = c.report_sources.new.err in
    let found : (sources : List (Format × List ℕ)) → known ≡ Some sources → AllZip (IsFound (is_summed plan)) (asked_rests plan.options sources) (map seen_as_rest c.in_ok-run.run'.kept.lists) = λ sources is. at_known _ sources is c.in_ok-run.ensures.found in record {
      done = search rules;
      failed = search rules;
      kept = search rules;
      strict = search rules;
      strict_failed = search rules;
      grown = search rules;
      limit = search rules;
      says = λ unwanted _. said_failing _ _ _ _ plan known c.from_residual-in_err-shown.result OutOfMemory c.from_residual-in_err-shown.ensures.1
          (inr (subst (λ err. IfSome known (TellsSources plan (g.E.Outlet.contents err) (g.E.Outlet.contents reported) (g.E.Outlet.failures err) (g.E.Outlet.failures reported))) (c.in_ok-run.ensures.untold unwanted)
          (told_reported _ _ _ _ plan c.in_ok-kept.kept.items c.args.inputs.items c.in_ok-run.run'.kept.lists c.lists.result.now found c.lists.ensures.lists (λ strict. c.in_ok-kept.ensures strict ∙ c.deref-2.ensures.value)
          (λ loose. c.in_ok-report_sources.ensures.told loose unwanted) (λ strict. c.in_ok-report_sources.ensures.told_strict strict unwanted))));
      flushed = search rules;
    }

-- nor to say how they ended
pub returns-in_err-report_sources-clause-showed : goal.returns-in_err-report_sources-clause-showed
returns-in_err-report_sources-clause-showed g c =
    let fault = c.in_err-report_sources.field-0.0 in record {
      done = search rules;
      failed = search rules;
      kept = search rules;
      strict = search rules;
      strict_failed = search rules;
      grown = search rules;
      limit = search rules;
      says = λ unwanted _. said_failing _ _ _ _ c.args.plan.now (known_inputs c.args.inputs.items) c.from_residual-in_err-report_sources.result (failure_of_run fault) c.from_residual-in_err-report_sources.ensures.1
          (said_none _ _ (untold_tells g.E.Outlet.contents g.E.Outlet.failures c.args.err.now c.report_sources.new.err (c.in_err-report_sources.ensures.untold_err ∙ c.in_ok-run.ensures.untold unwanted)) fault);
      flushed = search rules;
    }

use Rattle.std.proofs.Common.{◌≡◌, ◌∙◌, List, ℕ, false, rules, subst}
use Rattle.std.proofs.lemmas.Result.{IfErr-weaker, IfOk-weaker, on_ok_weaker}
use Rattle.source_views.specs.Opening.{AreLoaded}
use Rattle.command_line.specs.declared.plans.Form.TheVariants as form
use Rattle.flame_tool.specs.Runs.{Shows, ShowsSamples}
use Rattle.flame_tool.specs.StrictRuns.{has_strict_fault}
use Rattle.flame_tool.specs.checked.Failures.{Fails, FailsStrictly, TellsGrowth}
use Rattle.flame_tool.proofs.KnownSources.{bytes_known}
use Rattle.flame_tool.proofs.SaidSources.{said_known}
use Rattle.flame_tool.proofs.ToldEndings.{is_none}
use Rattle.flame_tool.proofs.TypeEndings.{unseen_err, unseen_ok, types_ungrown, types_unlimited}
use Rattle.flame_tool.proofs.plan_run.show_plan.Goals as goal

pub returns-in-Types-clause-showed : goal.returns-in-Types-clause-showed
returns-in-Types-clause-showed g c =
    let plan = c.args.plan.now in
    let types : plan.form ≡ form.Types = search rules in
    let unseen : ShowsSamples plan.form → ⊥ = λ samples. subst ShowsSamples types samples in
    let result = c.show_types.result in
    let ran = c.show_types.ensures in record {
      done = unseen_ok plan _ _ types _ result;
      failed = unseen_err plan _ _ types _ _ result (c.requires.profile types) ran.failed;
      kept = ran.kept;
      strict = λ samples. absurd (unseen samples);
      strict_failed = λ samples. absurd (unseen samples);
      grown = types_ungrown plan _ result types ran.none;
      limit = types_unlimited _ result ran.none;
      says = λ _ samples. absurd (unseen samples);
      flushed = ran.flushed;
    }

pub returns-in_ok-inputs-in-Text-clause-showed : goal.returns-in_ok-inputs-in-Text-clause-showed
returns-in_ok-inputs-in-Text-clause-showed g c =
    let plan = c.args.plan.now in
    let input = g.F.Files.known_input c.args.files.now in
    let files = g.F.Files.known_file c.args.files.now in
    let inputs = c.in_ok-inputs-in-Text.inputs.items in
    let loaded = subst (λ (paths : List (List ℕ)). AreLoaded plan.format input files paths inputs) c.get-paths.ensures c.in_ok-inputs-in-Text.ensures.loaded in
    let known = bytes_known plan input files inputs loaded in
    let old = g.W.Outlet.contents c.args.out.now in
    let new = g.W.Outlet.contents c.show_sources.new.out in
    let result = c.show_sources.result in
    let ran = c.show_sources.ensures.showed in record {
      done = on_ok_weaker result (known (Shows plan old new)) ran.done;
      failed = IfErr-weaker result _ _ (λ failure. known (Fails plan old new failure)) ran.failed;
      kept = ran.kept;
      strict = λ samples strict. on_ok_weaker result (known (λ sources. has_strict_fault plan.options sources ≡ false)) (ran.strict samples strict);
      strict_failed = λ samples strict. IfErr-weaker result _ _ (λ failure. known (λ sources. FailsStrictly (has_strict_fault plan.options sources) failure)) (ran.strict_failed samples strict);
      grown = IfOk-weaker result _ _ (λ is_over. known (TellsGrowth is_over plan)) ran.grown;
      limit = ran.limit;
      says = λ none samples. said_known _ _ _ _ plan _ _ known result (ran.says (c.new-advice.ensures ∙ is_none c.is_error_terminal.result g.F.Files.may_have_terminal c.is_error_terminal.ensures.terminal none) samples);
      flushed = ran.flushed;
    }

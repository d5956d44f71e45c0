-- What was told of the sources of a run, up to its end.
use Rattle.std.proofs.Common.{◌≡◌, ◌≤◌, ◌⊎◌, ◌∙◌, ◌++◌, inl, inr, ℕ, Bool, true, false, List, [], Option, Some, Result, Ok, Err, IfOk, IfErr, IfSome, OnOk, ap, append-nil, arith, map, refl, subst, sym}
use Rattle.std.specs.Prelude.{IsErrAnd, if◌then◌else◌}
use Rattle.std.proofs.lemmas.Option.{IfSome_then}
use Rattle.stack_core.specs.Ledgers.{ListState}
use Rattle.run_options.specs.declared.formats.Format.{Format}
use Rattle.std.specs.List.{AllZip}
use Rattle.ring_collect.specs.Collection.{AreWhole, seen_as_rest}
use Rattle.ring_collect.specs.declared.faults.CollectFault.TheVariants as collect
use Rattle.source_lists.specs.Sources.{asked_rests, known_inputs}
use Rattle.source_lists.specs.Strictness.{source_fault}
use Rattle.source_lists.specs.declared.run_faults.RunFault.{RunFault}
use Rattle.source_lists.specs.declared.run_faults.RunFault.TheVariants as run
use Rattle.command_line.specs.declared.plans.Form.{Form}
use Rattle.command_line.specs.declared.plans.Form.TheVariants as form
use Rattle.command_line.specs.declared.plans.Plan.{Plan}
use Rattle.source_views.specs.Failures.{failure_of_run, status_of}
use Rattle.source_views.specs.Messages.{Tells, message_of_ending, message_of_failure, message_of_strict_fault, said_of_each}
use Rattle.source_views.specs.declared.failures.Failure.{Failure}
use Rattle.source_views.specs.declared.failures.Failure.TheVariants.{TooManyFiles, Unreadable, TooLarge, OutOfMemory, NoThread, Unfinished, Faults, Output}
use Rattle.source_views.proofs.MessageTexts.{tells_more, tells_nothing}
use Rattle.flame_tool.specs.Runs.{ShowsSamples}
use Rattle.flame_tool.specs.ToldRuns.{TellsProfile, TellsFailure, TellsGrown, TellsSources, said_of_growth, said_of_sources}
use Rattle.flame_tool.specs.checked.Failures.{exit_status}
use Rattle.flame_tool.specs.checked.Saying.{TellsEndings, SaidBefore, SaidOfSources, SaidOfTypes}
use Rattle.flame_tool.proofs.KnownSources.{at_known, if_known}
use Rattle.flame_tool.specs.checked.SummedPlans.{is_summed}
use Rattle.source_lists.specs.Summing.{IsFound}
use Rattle.flame_tool.proofs.FoundSources.{found_strictly}
use Rattle.flame_tool.proofs.ToldEndings.{told_of_read}

-- ---- at the end

-- what is told at the end of a run that shows samples, by its exit status
pub record EndsOfSources (old new : Option (List ℕ)) (before after : ℕ) (plan : Plan) (known : Option (List (Format × List ℕ))) (status : ℕ) : Type 0 where
  pub low : status ≤ 1 → IfSome known (TellsSources plan old new before after)
  pub grown : status ≡ 4 → IfSome known (TellsGrown plan old new before after)
  pub failed : status ≡ 3 → TellsFailure plan.files [] old new before after
      ⊎ IfSome known (λ sources. TellsFailure plan.files (said_of_sources plan sources) old new before after)

-- the same of a run that shows sample types
pub record EndsOfTypes (old new : Option (List ℕ)) (before after : ℕ) (files : List (List ℕ)) (known : Option (List ℕ)) (status : ℕ) : Type 0 where
  pub shown : status ≡ 0 → Tells [] old new before after
  pub faulty : status ≡ 1 → IfSome known (TellsProfile files old new before after)
  pub failed : status ≡ 3 → TellsFailure files [] old new before after

-- ---- before a failure

said_all : (none all : Type 0) → all → (failure : Failure) → SaidBefore none all failure
said_all none all said TooManyFiles = tt
said_all none all said (Unreadable source) = inr said
said_all none all said (TooLarge source) = inr said
said_all none all said OutOfMemory = inr said
said_all none all said NoThread = inr said
said_all none all said (Unfinished source) = inr said
said_all none all said Faults = said
said_all none all said (Output fault) = inr said

pub said_none : (none all : Type 0) → none → (fault : RunFault) → SaidBefore none all (failure_of_run fault)
said_none none all said (run.Collect collect.OutOfMemory) = inl said
said_none none all said (run.Collect collect.NoThread) = inl said
said_none none all said (run.Collect (collect.Unfinished source)) = inl said
said_none none all said (run.Unreadable source) = inl said

-- ---- in one place and another

module _ (old new : Option (List ℕ)) (before after : ℕ) where
  -- of a result that is a failure
  pub said_failing : (plan : Plan) (known : Option (List (Format × List ℕ))) (result : Result Bool Failure) (failure : Failure) → IsErrAnd result (λ error. error ≡ failure)
      → SaidBefore (Tells [] old new before after) (IfSome known (TellsSources plan old new before after)) failure → SaidOfSources old new before after plan known result
  said_failing plan known (Ok is_over) failure is said = absurd is
  said_failing plan known (Err error) failure is said = subst (λ failure. SaidOfSources old new before after plan known (Err failure)) (sym is) said

  said_mapped : (none all all' : Type 0) → (all → all') → (failure : Failure) → SaidBefore none all failure → SaidBefore none all' failure
  said_mapped none all all' more TooManyFiles said = tt
  said_mapped none all all' more (Unreadable source) (inl said) = inl said
  said_mapped none all all' more (Unreadable source) (inr said) = inr (more said)
  said_mapped none all all' more (TooLarge source) (inl said) = inl said
  said_mapped none all all' more (TooLarge source) (inr said) = inr (more said)
  said_mapped none all all' more OutOfMemory (inl said) = inl said
  said_mapped none all all' more OutOfMemory (inr said) = inr (more said)
  said_mapped none all all' more NoThread (inl said) = inl said
  said_mapped none all all' more NoThread (inr said) = inr (more said)
  said_mapped none all all' more (Unfinished source) (inl said) = inl said
  said_mapped none all all' more (Unfinished source) (inr said) = inr (more said)
  said_mapped none all all' more Faults said = more said
  said_mapped none all all' more (Output fault) (inl said) = inl said
  said_mapped none all all' more (Output fault) (inr said) = inr (more said)

  -- of sources that are known where those are
  pub said_known : (plan : Plan) (loaded known : Option (List (Format × List ℕ))) → ((P : List (Format × List ℕ) → Type 0) → IfSome loaded P → IfSome known P)
      → (result : Result Bool Failure) → SaidOfSources old new before after plan loaded result → SaidOfSources old new before after plan known result
  said_known plan loaded known more (Ok true) said = more (TellsGrown plan old new before after) said
  said_known plan loaded known more (Ok false) said = more (TellsSources plan old new before after) said
  said_known plan loaded known more (Err failure) said =
      said_mapped (Tells [] old new before after) (IfSome loaded (TellsSources plan old new before after)) (IfSome known (TellsSources plan old new before after)) (more (TellsSources plan old new before after)) failure said

  -- what was reported of sources that were read
  module _ (plan : Plan) (kept inputs : List (Format × Option (List ℕ))) (lists told : List ListState) (found : (sources : List (Format × List ℕ)) → known_inputs inputs ≡ Some sources → AllZip (IsFound (is_summed plan)) (asked_rests plan.options sources) (map seen_as_rest lists))
      (same : told ≡ lists) (looked_at : plan.is_strict ≡ true → kept ≡ inputs) where
    pub told_reported : (plan.is_strict ≡ false → TellsEndings plan.files old new before after (map (λ list. list.ending) told))
        → (plan.is_strict ≡ true → IfSome (known_inputs kept) (λ sources. AreWhole (asked_rests plan.options sources) told
        → Tells (said_of_each (message_of_strict_fault plan.files) 0 (map (source_fault plan.options) sources)) old new before after))
        → IfSome (known_inputs inputs) (TellsSources plan old new before after)
    told_reported loosely strictly = if_known (known_inputs inputs) (TellsSources plan old new before after) (λ sources is. go sources is plan.is_strict refl)
      where
        tells : List (Format × List ℕ) → Bool → Type 0
        tells sources strict = Tells (if strict then said_of_each (message_of_strict_fault plan.files) 0 (map (source_fault plan.options) sources)
            else said_of_each (message_of_ending plan.files) 0 (map (λ rest. rest.ending) (asked_rests plan.options sources))) old new before after

        go : (sources : List (Format × List ℕ)) → known_inputs inputs ≡ Some sources → (strict : Bool) → plan.is_strict ≡ strict → TellsSources plan old new before after sources
        go sources is true strict =
            subst (tells sources) (sym strict)
            (at_known _ sources (ap known_inputs (looked_at strict) ∙ is) (strictly strict) (subst (AreWhole (asked_rests plan.options sources)) (sym same) (found_strictly plan (asked_rests plan.options sources) (map seen_as_rest lists) strict (found sources is))))
        go sources is false loose = subst (tells sources) (sym loose) (told_of_read plan sources lists told old new before after (found sources is) same (loosely loose))

-- ---- behind what was told

module _ {E : Type 0} (contents : E → Option (List ℕ)) (failures : E → ℕ) where
  abbrev pub Gains : E → E → List ℕ → Type 0
  Gains from to text = Tells text (contents from) (contents to) (failures from) (failures to)

  pub untold_tells : (old new : E) → new ≡ old → Gains old new []
  untold_tells old new same = subst (λ err. Gains old err []) (sym same) (tells_nothing (contents old) (failures old))

  pub said_behind : (plan : Plan) (known : Option (List (Format × List ℕ))) (line : List ℕ) (start mid new : E) (result : Result Bool Failure)
      → IfOk result (λ is_over. is_over ≡ false → new ≡ mid) → IfErr result (λ _. new ≡ mid) → OnOk result (Gains mid new line) → ((sources : List (Format × List ℕ)) → known ≡ Some sources → line ≡ said_of_growth plan sources)
      → IfSome known (TellsSources plan (contents start) (contents mid) (failures start) (failures mid)) → SaidOfSources (contents start) (contents new) (failures start) (failures new) plan known result
  said_behind plan known line start mid new (Ok true) same same_err grows grown told =
      if_known known (TellsGrown plan (contents start) (contents new) (failures start) (failures new))
      (λ sources is. subst (λ line. Gains start new (said_of_sources plan sources ++ line)) (grown sources is)
      (tells_more (said_of_sources plan sources) line (contents start) (contents mid) (contents new) (failures start) (failures mid) (failures new)
      (at_known (TellsSources plan (contents start) (contents mid) (failures start) (failures mid)) sources is told) grows))
  said_behind plan known line start mid new (Ok false) same same_err grows grown told =
      subst (λ err. IfSome known (TellsSources plan (contents start) (contents err) (failures start) (failures err))) (sym (same refl)) told
  said_behind plan known line start mid new (Err failure) same same_err grows grown told =
      said_all (Gains start new []) (IfSome known (TellsSources plan (contents start) (contents new) (failures start) (failures new)))
      (subst (λ err. IfSome known (TellsSources plan (contents start) (contents err) (failures start) (failures err))) (sym same_err) told) failure

  -- ---- the end

  module _ (plan : Plan) (known : Option (List (Format × List ℕ))) (start mid new : E) where
    abbrev Ends : ℕ → Type 0
    Ends = EndsOfSources (contents start) (contents new) (failures start) (failures new) plan known

    abbrev All : Type 0
    All = IfSome known (TellsSources plan (contents start) (contents mid) (failures start) (failures mid))

    failed_with : (failure : Failure) → status_of failure ≡ 3 → Gains start mid [] ⊎ All → Gains mid new (message_of_failure plan.files failure) → Ends (status_of failure)
    failed_with failure three said told = record {
      low = λ low. absurd (omega (arith, three, low));
      grown = λ four. absurd (omega (arith, three, four));
      failed = λ _. behind said;
    }
      where
        after : (said : List ℕ) → Gains start mid said → TellsFailure plan.files said (contents start) (contents new) (failures start) (failures new)
        after said gains = record {
          failure = failure;
          status = three;
          told = tells_more said (message_of_failure plan.files failure) (contents start) (contents mid) (contents new) (failures start) (failures mid) (failures new) gains told;
        }

        behind : Gains start mid [] ⊎ All → TellsFailure plan.files [] (contents start) (contents new) (failures start) (failures new)
            ⊎ IfSome known (λ sources. TellsFailure plan.files (said_of_sources plan sources) (contents start) (contents new) (failures start) (failures new))
        behind (inl none) = inl (after [] none)
        behind (inr all) = inr (IfSome_then known all (λ sources. after (said_of_sources plan sources)))

    ends_failed : (failure : Failure) → SaidBefore (Gains start mid []) All failure → Gains mid new (message_of_failure plan.files failure) → Ends (status_of failure)
    ends_failed TooManyFiles said told = record { low = λ low. absurd (omega (arith, low)); grown = λ four. absurd (omega (arith, four)); failed = λ three. absurd (omega (arith, three)) }
    ends_failed (Unreadable source) said told = failed_with (Unreadable source) refl said told
    ends_failed (TooLarge source) said told = failed_with (TooLarge source) refl said told
    ends_failed OutOfMemory said told = failed_with OutOfMemory refl said told
    ends_failed NoThread said told = failed_with NoThread refl said told
    ends_failed (Unfinished source) said told = failed_with (Unfinished source) refl said told
    ends_failed Faults said told = record {
      low = λ _. IfSome_then known said
          (λ sources gains. subst (Gains start new) (append-nil (said_of_sources plan sources))
          (tells_more (said_of_sources plan sources) [] (contents start) (contents mid) (contents new) (failures start) (failures mid) (failures new) gains told));
      grown = λ four. absurd (omega (arith, four));
      failed = λ three. absurd (omega (arith, three));
    }
    ends_failed (Output fault) said told = failed_with (Output fault) refl said told

    pub ends_of_sources : (shown : Result Bool Failure) → SaidOfSources (contents start) (contents mid) (failures start) (failures mid) plan known shown → OnOk shown (new ≡ mid)
        → IfErr shown (λ failure. Gains mid new (message_of_failure plan.files failure)) → Ends (exit_status shown)
    ends_of_sources (Ok true) said same told = record {
      low = λ low. absurd (omega (arith, low));
      grown = λ _. subst (λ err. IfSome known (TellsGrown plan (contents start) (contents err) (failures start) (failures err))) (sym same) said;
      failed = λ three. absurd (omega (arith, three));
    }
    ends_of_sources (Ok false) said same told = record {
      low = λ _. subst (λ err. IfSome known (TellsSources plan (contents start) (contents err) (failures start) (failures err))) (sym same) said;
      grown = λ four. absurd (omega (arith, four));
      failed = λ three. absurd (omega (arith, three));
    }
    ends_of_sources (Err failure) said same told = ends_failed failure said told

  -- the same of sample types
  module _ (files : List (List ℕ)) (known : Option (List ℕ)) (start mid new : E) where
    abbrev TypesEnd : ℕ → Type 0
    TypesEnd = EndsOfTypes (contents start) (contents new) (failures start) (failures new) files known

    types_failed : (failure : Failure) → status_of failure ≡ 3 → Gains start mid [] → Gains mid new (message_of_failure files failure) → TypesEnd (status_of failure)
    types_failed failure three said told = record {
      shown = λ zero. absurd (omega (arith, three, zero));
      faulty = λ one. absurd (omega (arith, three, one));
      failed = λ _. record {
        failure = failure;
        status = three;
        told = tells_more [] (message_of_failure files failure) (contents start) (contents mid) (contents new) (failures start) (failures mid) (failures new) said told;
      };
    }

    pub ends_of_types : (shown : Result Bool Failure) → SaidOfTypes (contents start) (contents mid) (failures start) (failures mid) files known shown → OnOk shown (new ≡ mid)
        → IfErr shown (λ failure. Gains mid new (message_of_failure files failure)) → TypesEnd (exit_status shown)
    ends_of_types (Ok true) said same told = record { shown = λ zero. absurd (omega (arith, zero)); faulty = λ one. absurd (omega (arith, one)); failed = λ three. absurd (omega (arith, three)) }
    ends_of_types (Ok false) said same told = record {
      shown = λ _. subst (λ err. Gains start err []) (sym same) said;
      faulty = λ one. absurd (omega (arith, one));
      failed = λ three. absurd (omega (arith, three));
    }
    ends_of_types (Err TooManyFiles) said same told = record { shown = λ zero. absurd (omega (arith, zero)); faulty = λ one. absurd (omega (arith, one)); failed = λ three. absurd (omega (arith, three)) }
    ends_of_types (Err (Unreadable source)) said same told = types_failed (Unreadable source) refl said told
    ends_of_types (Err (TooLarge source)) said same told = types_failed (TooLarge source) refl said told
    ends_of_types (Err OutOfMemory) said same told = types_failed OutOfMemory refl said told
    ends_of_types (Err NoThread) said same told = types_failed NoThread refl said told
    ends_of_types (Err (Unfinished source)) said same told = types_failed (Unfinished source) refl said told
    ends_of_types (Err Faults) said same told = record {
      shown = λ zero. absurd (omega (arith, zero));
      faulty = λ _. IfSome_then known said
          (λ profile gains. subst (Gains start new) (append-nil _) (tells_more _ [] (contents start) (contents mid) (contents new) (failures start) (failures mid) (failures new) gains told));
      failed = λ three. absurd (omega (arith, three));
    }
    ends_of_types (Err (Output fault)) said same told = types_failed (Output fault) refl said told

-- ---- by the plan

-- samples or sample types are shown
shows_either : (shown : Form) → ShowsSamples shown ⊎ (shown ≡ form.Types)
shows_either form.Text = inl tt
shows_either (form.Page page) = inl tt
shows_either (form.Picture picture) = inl tt
shows_either form.Types = inr refl
shows_either form.Live = inl tt
shows_either (form.Callers table) = inl tt
shows_either (form.Callees table) = inl tt
shows_either (form.Peek table) = inl tt

module _ (old new : Option (List ℕ)) (before after : ℕ) where
  -- why a run of a plan failed was told
  abbrev pub TellsPlanFailure : Plan → Option (List (Format × List ℕ)) → Type 0
  TellsPlanFailure plan known = TellsFailure plan.files [] old new before after
      ⊎ (ShowsSamples plan.form × IfSome known (λ sources. TellsFailure plan.files (said_of_sources plan sources) old new before after))

  pub failure_told : (plan : Plan) (known : Option (List (Format × List ℕ))) (profile : Option (List ℕ)) (status : ℕ) → status ≡ 3
      → (ShowsSamples plan.form → EndsOfSources old new before after plan known status) → (plan.form ≡ form.Types → EndsOfTypes old new before after plan.files profile status)
      → TellsPlanFailure plan known
  failure_told plan known profile status three samples types = go (shows_either plan.form)
    where
      of_samples : ShowsSamples plan.form → TellsFailure plan.files [] old new before after ⊎ IfSome known (λ sources. TellsFailure plan.files (said_of_sources plan sources) old new before after) → TellsPlanFailure plan known
      of_samples shows (inl alone) = inl alone
      of_samples shows (inr behind) = inr (shows, behind)

      go : ShowsSamples plan.form ⊎ (plan.form ≡ form.Types) → TellsPlanFailure plan known
      go (inl shows) = of_samples shows ((samples shows).failed three)
      go (inr shows) = inl ((types shows).failed three)

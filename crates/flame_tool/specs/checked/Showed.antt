-- What was done for a plan over its sources, where their bytes are known, and what that says of them and of the outlets.
use Rattle.std.specs.Prelude.{◌≡◌, ℕ, Bool, true, false, List, Option, Result, IfErr, IfOk, IfSome, IsErrOf, IsSome, OnOk}
use Rattle.run_options.specs.declared.formats.Format.{Format}
use Rattle.command_line.specs.Plans.{limit_of}
use Rattle.command_line.specs.declared.plans.Plan.{Plan}
use Rattle.source_views.specs.Failures.{Flushes}
use Rattle.source_views.specs.declared.failures.Failure.{Failure}
use Rattle.source_views.specs.declared.failures.Failure.TheVariants.{TooManyFiles}
use Rattle.flame_tool.specs.KnownRuns.{Change}
use Rattle.flame_tool.specs.Runs.{Shows, ShowsSamples}
use Rattle.flame_tool.specs.StrictRuns.{has_strict_fault}
use Rattle.flame_tool.specs.checked.Failures.{Fails, FailsStrictly, KeepsOutput, TellsGrowth}
use Rattle.flame_tool.specs.TypeRuns.{ShowsTypes}
use Rattle.flame_tool.specs.checked.Saying.{SaidOfSources, SaidOfTypes}
use Rattle.flame_tool.specs.checked.TypeFailures.{FailsTypes}

-- it was done, and whether functions grew, or it failed. What was told is said of a run with nothing else to tell
pub record Showed (plan : Plan) (sources : Option (List (Format × List ℕ))) (is_plain : Type 0) (out err : Change) (is_flushed : Type 0) (result : Result Bool Failure) : Type 0 where
  pub done : OnOk result (IfSome sources (Shows plan out.held_before out.held_after))
  pub failed : IfErr result (λ failure. IfSome sources (Fails plan out.held_before out.held_after failure))
  pub kept : IfErr result (KeepsOutput out.held_before out.held_after)
  pub strict : ShowsSamples plan.form → plan.is_strict ≡ true → OnOk result (IfSome sources (λ sources.
      has_strict_fault plan.options sources ≡ false))
  pub strict_failed : ShowsSamples plan.form → plan.is_strict ≡ true → IfErr result (λ failure. IfSome sources (λ sources.
      FailsStrictly (has_strict_fault plan.options sources) failure))
  pub grown : IfOk result (λ is_over. IfSome sources (TellsGrowth is_over plan))
  pub limit : IfOk result (λ is_over. is_over ≡ true → IsSome (limit_of plan.view))
  pub says : is_plain → ShowsSamples plan.form →
      SaidOfSources err.held_before err.held_after err.failed_before err.failed_after plan sources result
  pub flushed : Flushes is_flushed out.failed_before out.failed_after result

-- the same of the sample types of a profile in place of samples
pub record ShowedTypes (profile : Option (List ℕ)) (files : List (List ℕ)) (is_plain : Type 0) (out err : Change) (is_flushed : Type 0) (result : Result Bool Failure) : Type 0 where
  pub done : OnOk result (IfSome profile (ShowsTypes out.held_before out.held_after))
  pub failed : IfErr result (λ failure. IfSome profile (FailsTypes out.held_before out.held_after failure))
  pub kept : IfErr result (KeepsOutput out.held_before out.held_after)
  pub none : IfOk result (λ is_over. is_over ≡ false)
  pub says : is_plain → SaidOfTypes err.held_before err.held_after err.failed_before err.failed_after files profile result
  pub few : IsErrOf result TooManyFiles → ⊥
  pub flushed : Flushes is_flushed out.failed_before out.failed_after result

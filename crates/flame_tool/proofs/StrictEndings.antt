-- How a run ends that is asked to be strict.
use Rattle.std.proofs.Common.{◌≡◌, ◌∙◌, ℕ, Bool, false, true, List, Option, sym}
use Rattle.std.proofs.lemmas.Bool.{true≢false, false≢true}
use Rattle.stack_core.specs.Ledgers.{ListState}
use Rattle.run_options.specs.declared.formats.Format.{Format}
use Rattle.command_line.specs.declared.plans.Plan.{Plan}
use Rattle.source_views.specs.Failures.{has_fault}
use Rattle.source_views.specs.declared.failures.Failure.{Failure}
use Rattle.source_views.specs.declared.failures.Failure.TheVariants.{TooManyFiles, Unreadable, TooLarge, OutOfMemory, NoThread, Unfinished, Faults, Output}
use Rattle.flame_tool.specs.StrictRuns.{HasPlainFault}
use Rattle.flame_tool.specs.checked.Failures.{FailsStrictly, FailsToShow}

-- ---- a failed run

-- the lists have no fault
pub unsent : (lists : List ListState) (text : List ℕ) (old new : Option (List ℕ)) (faulty : Bool) → faulty ≡ false → has_fault lists ≡ false → (failure : Failure) → FailsToShow lists text old new failure → FailsStrictly faulty failure
unsent lists text old new faulty none clean TooManyFiles fails = absurd fails
unsent lists text old new faulty none clean (Unreadable source) fails = absurd fails
unsent lists text old new faulty none clean (TooLarge source) fails = absurd fails
unsent lists text old new faulty none clean OutOfMemory fails = tt
unsent lists text old new faulty none clean NoThread fails = absurd fails
unsent lists text old new faulty none clean (Unfinished source) fails = absurd fails
unsent lists text old new faulty none clean Faults fails = absurd (false≢true (sym clean ∙ fails.0))
unsent lists text old new faulty none clean (Output fault) fails = none

-- it is asked strictly, so that no plain fault is told
pub told_strictly : (plan : Plan) (sources : List (Format × List ℕ)) → plan.is_strict ≡ true → HasPlainFault plan sources
told_strictly plan sources strict = λ plain. absurd (true≢false (sym strict ∙ plain))

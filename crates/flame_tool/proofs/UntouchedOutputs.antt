-- A fault of a source ends a run before the output is touched.
use Rattle.std.proofs.Common.{◌≡◌, ◌∙◌, ℕ, Bool, true, false, List, Option, Some, None, Result, IfSome, IfErr, OnOk, All, subst, sym}
use Rattle.std.proofs.lemmas.Bool.{true≢false}
use Rattle.stack_core.specs.Reading.{Rest}
use Rattle.stack_core.specs.declared.endings.SourceEnd.{SourceEnd}
use Rattle.stack_core.specs.declared.endings.SourceEnd.TheVariants as ends
use Rattle.command_line.specs.declared.plans.Plan.{Plan}
use Rattle.flame_tool.specs.KnownFacts.{wanted_rests}
use Rattle.run_options.specs.declared.formats.Format.{Format}
use Rattle.flame_tool.specs.Runs.{FailsUntouched, HasFault, IsClean, IsFault, Shows, ShowsSamples}
use Rattle.flame_tool.specs.TypeRuns.{HasTableFault, ShowsTypes}
use Rattle.flame_tool.specs.checked.Failures.{Fails, FailsStrictly, KeepsOutput, exit_status}
use Rattle.flame_tool.specs.checked.TypeFailures.{FailsTypes}
use Rattle.flame_tool.proofs.ExitStatuses.{untouched}
use Rattle.source_views.specs.Failures.{Flushes}
use Rattle.source_views.specs.declared.failures.Failure.{Failure}

-- ---- sources with a fault are not all clean

clean_or_fault : (ending : SourceEnd) → IsClean ending → IsFault ending → ⊥
clean_or_fault (ends.Clean ignored) clean faulty = faulty
clean_or_fault (ends.Fault fault) clean faulty = clean
clean_or_fault (ends.Stopped after) clean faulty = clean

not_both : (rests : List Rest) → All (λ (rest : Rest). IsClean rest.ending) rests → HasFault rests → ⊥
not_both rests clean (at, rest, within, is, faulty) =
    clean_or_fault rest.ending (subst (λ (rest : Rest). IsClean rest.ending) is (clean at rest within)) faulty

-- ---- a run of a plan

module _ (P : Type 0) (plan : Plan) (old new : Option (List ℕ)) (before after : ℕ) (samples : ShowsSamples plan.form) where
  pub untouched_at_fault : (known : Option (List (Format × List ℕ))) (shown : Result Bool Failure)
      → OnOk shown (IfSome known (Shows plan old new)) → IfErr shown (λ failure. IfSome known (Fails plan old new failure)) → IfErr shown (KeepsOutput old new) → Flushes P before after shown
      → IfSome known (λ sources. HasFault (wanted_rests plan sources) → FailsUntouched (exit_status shown) old new before after)
  untouched_at_fault None shown shows fails kept flushes = tt
  untouched_at_fault (Some sources) shown shows fails kept flushes = λ faulty.
      untouched P (Shows plan old new sources) (λ failure. Fails plan old new failure sources) old new before after
      (λ shows. not_both (wanted_rests plan sources) (shows samples).1.clean faulty) (λ fault fails. not_both (wanted_rests plan sources) (fails samples).1.clean faulty) shown shows fails kept flushes

-- the same of a plan that asks for sample types
pub untouched_at_table_fault : (P : Type 0) (old new : Option (List ℕ)) (before after : ℕ) (Q : Type 0) (known : Option (List ℕ)) (shown : Result Bool Failure) → OnOk shown (Q → IfSome known (ShowsTypes old new))
    → IfErr shown (λ failure. Q → IfSome known (FailsTypes old new failure)) → IfErr shown (KeepsOutput old new) → Flushes P before after shown
    → Q → IfSome known (λ profile. HasTableFault profile → FailsUntouched (exit_status shown) old new before after)
untouched_at_table_fault P old new before after Q None shown shows fails kept flushes asked = tt
untouched_at_table_fault P old new before after Q (Some profile) shown shows fails kept flushes asked = λ faulty.
    untouched P (Q → ShowsTypes old new profile) (λ failure. Q → FailsTypes old new failure profile) old new before after
    (λ shows. cc (faulty.1, (shows asked).0)) (λ fault fails. cc (faulty.1, (fails asked).0)) shown shows fails kept flushes

-- ---- a strict run, where it is known whether a source has a strict fault

pub strict_untouched : {A : Type 0} (has : A → Bool) (known : Option A) (P : Type 0) (old new : Option (List ℕ)) (before after : ℕ) (shown : Result Bool Failure)
    → OnOk shown (IfSome known (λ sources. has sources ≡ false)) → IfErr shown (λ failure. IfSome known (λ sources. FailsStrictly (has sources) failure)) → IfErr shown (KeepsOutput old new) → Flushes P before after shown
    → IfSome known (λ sources. has sources ≡ true → FailsUntouched (exit_status shown) old new before after)
strict_untouched has None P old new before after shown clean fails kept flushes = tt
strict_untouched has (Some sources) P old new before after shown clean fails kept flushes = λ faulty.
    untouched P (has sources ≡ false) (FailsStrictly (has sources)) old new before after (λ none. true≢false (sym faulty ∙ none)) (λ fault none. true≢false (sym faulty ∙ none)) shown clean fails kept flushes

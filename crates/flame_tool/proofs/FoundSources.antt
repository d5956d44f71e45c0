-- What was found of the sources of a plan: their samples, or others that weigh alike.
use Rattle.std.proofs.Common.{◌≡◌, ◌||◌, ℕ, Bool, false, true, ap, refl, subst, sym, List, [], ◌∷◌, map, Option, None, Some, Result, Ok, Err, IfOk, IfSome}
use Rattle.std.specs.Prelude.{not, ◌&&◌}
use Rattle.std.specs.List.{AllZip, list_any}
use Rattle.stack_core.specs.Ledgers.{ListState}
use Rattle.stack_core.specs.Reading.{Rest}
use Rattle.merged_stacks.specs.Timeline.{samples_of}
use Rattle.ring_collect.specs.Collection.{seen_as_rest}
use Rattle.run_options.specs.declared.formats.Format.{Format}
use Rattle.run_options.specs.declared.options.Options.{Options}
use Rattle.source_lists.specs.Sources.{asked_rests}
use Rattle.source_lists.specs.declared.reading.Run.{Run}
use Rattle.source_lists.specs.declared.run_faults.RunFault.{RunFault}
use Rattle.command_line.specs.declared.plans.Plan.{Plan}
use Rattle.source_lists.specs.Summing.{IsFound, WeighAlike}
use Rattle.source_lists.proofs.FoundRests.{found_ending, found_same, found_samples, found_self}
use Rattle.source_views.specs.Failures.{ends_in_fault}
use Rattle.flame_tool.specs.Runs.{lists_of}
use Rattle.flame_tool.specs.checked.SummedPlans.{is_summed, is_summed_view}

pub endings_found : (is_summed : Bool) (rests : List Rest) (lists : List ListState) → AllZip (IsFound is_summed) rests (map seen_as_rest lists) → map (λ list. list.ending) lists ≡ map (λ rest. rest.ending) rests
endings_found is_summed [] [] each = refl
endings_found is_summed [] (list ∷ lists) each = absurd each
endings_found is_summed (rest ∷ rests) [] each = absurd each
endings_found is_summed (rest ∷ rests) (list ∷ lists) each = λ i. found_ending is_summed rest (seen_as_rest list) each.0 i ∷ endings_found is_summed rests lists each.1 i

pub faults_found : (is_summed : Bool) (rests found : List Rest) → AllZip (IsFound is_summed) rests found → list_any (λ (rest : Rest). ends_in_fault rest.ending) found ≡ list_any (λ (rest : Rest). ends_in_fault rest.ending) rests
faults_found is_summed [] [] each = refl
faults_found is_summed [] (one ∷ found) each = absurd each
faults_found is_summed (rest ∷ rests) [] each = absurd each
faults_found is_summed (rest ∷ rests) (one ∷ found) each = λ i. ends_in_fault (found_ending is_summed rest one each.0 i) || faults_found is_summed rests found each.1 i

pub alike_found : (is_summed : Bool) (rests : List Rest) (lists : List ListState) → AllZip (IsFound is_summed) rests (map seen_as_rest lists) → AllZip WeighAlike (samples_of lists) (lists_of rests)
alike_found is_summed [] [] each = tt
alike_found is_summed [] (list ∷ lists) each = absurd each
alike_found is_summed (rest ∷ rests) [] each = absurd each
alike_found is_summed (rest ∷ rests) (list ∷ lists) each = (found_samples is_summed rest (seen_as_rest list) each.0, alike_found is_summed rests lists each.1)

-- strictly, all samples are found
pub found_strictly : (plan : Plan) (rests found : List Rest) → plan.is_strict ≡ true → AllZip (IsFound (is_summed plan)) rests found → found ≡ rests
found_strictly plan rests found strict each =
    found_same rests found (subst (λ is_summed. AllZip (IsFound is_summed) rests found) (ap (λ strict. not strict && is_summed_view plan.view plan.options.every) strict) each)

-- what is read in order may be found of a plan that sums
pub open_found : (is_summed : Bool) (options : Options) (known : Option (List (Format × List ℕ))) (result : Result Run RunFault)
    → IfOk result (λ run. IfSome known (λ sources. AllZip (IsFound false) (asked_rests options sources) (map seen_as_rest run.kept.lists)))
    → IfOk result (λ run. IfSome known (λ sources. AllZip (IsFound is_summed) (asked_rests options sources) (map seen_as_rest run.kept.lists)))
open_found is_summed options known (Err fault) each = tt
open_found is_summed options None (Ok run) each = tt
open_found is_summed options (Some sources) (Ok run) each =
    let rests = asked_rests options sources in
    subst (AllZip (IsFound is_summed) rests) (sym (found_same rests (map seen_as_rest run.kept.lists) each)) (found_self is_summed rests)

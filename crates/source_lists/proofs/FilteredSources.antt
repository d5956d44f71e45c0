-- What is left of sources where a filter leaves samples out.
use Rattle.std.proofs.Common.{◌≡◌, ◌∙◌, ◌<◌, ◌^◌, ℕ, suc, Bool, false, true, refl, sym, ap, subst, arith, List, [], ◌∷◌, length, map, All}
use Rattle.std.specs.List.{AllZip, slice_get}
use Rattle.std.specs.Prelude.{Err, IfOk, IfSome, Ok, Option, Result, Some, option_map}
use Rattle.std.proofs.lemmas.List.{length-map}
use Rattle.std.proofs.lemmas.Option.{slice_get-map}
use Rattle.std.proofs.lemmas.Simd.{map-map}
use Rattle.std.proofs.lemmas.List.Elements.{All-cons, All-map, All-nil}
use Rattle.sample_tables.specs.Samples.{total_weight}
use Rattle.stack_core.specs.Ledgers.{ListState}
use Rattle.stack_core.specs.Reading.{Rest, IsSourceLimited}
use Rattle.stack_core.specs.Interleaving.{IsInterleaving}
use Rattle.stack_core.specs.Told.{IsCollected}
use Rattle.sample_tables.specs.declared.samples.Sample.{Sample}
use Rattle.run_options.proofs.FilterLemmas.{all_is_kept, fewer_kept, limited_kept}
use Rattle.run_options.specs.Filters.{is_everything, kept_rest, kept_samples}
use Rattle.run_options.specs.declared.filters.Filter.{Filter}
use Rattle.run_options.specs.declared.options.Options.{Options}
use Rattle.merged_stacks.specs.Merged.{all_samples}
use Rattle.merged_stacks.specs.Timeline.{samples_of}
use Rattle.ring_collect.specs.Collection.{AreWhole, Collects, seen_as_rest}
use Rattle.run_options.specs.declared.formats.Format.{Format}
use Rattle.source_lists.specs.Runs.{IsReadOut, ReadsLists}
use Rattle.source_lists.specs.Sources.{asked_rests, whole_rest, whole_rests, whole_weight}
use Rattle.source_lists.specs.Summing.{IsFound}
use Rattle.source_lists.specs.checked.Readers.{known, naming_rest, rows}
use Rattle.source_lists.specs.declared.reading.Run.{Run}
use Rattle.source_lists.specs.declared.run_faults.RunFault.{RunFault}
use Rattle.source_lists.specs.declared.source_reader.SourceReader.{SourceReader}
use Rattle.stack_core.specs.declared.row_samples.NamingReader.{NamingReader}
use Rattle.source_lists.proofs.KeptLemmas.{samples_of_rests}
use Rattle.source_lists.proofs.KnownInputs.{if_some}
use Rattle.source_lists.proofs.FoundRests.{all_found_kept, found_same, found_weight}
use Rattle.source_lists.proofs.StrictLemmas.{behind_first, first_rest}

-- the filter that asks for nothing leaves nothing out
pub whole_is_kept : (options : Options) (inputs : List (Format × List ℕ)) → is_everything options.filter ≡ true → whole_rests options inputs ≡ asked_rests options inputs
whole_is_kept options [] e = refl
whole_is_kept options (input ∷ inputs) e =
    λ i. sym (all_is_kept options.filter e (whole_rest options input)) i ∷ whole_is_kept options inputs e i

-- what is asked for is what the filter keeps of all
pub kept_of_all : (options : Options) (inputs : List (Format × List ℕ)) → map (kept_rest options.filter) (whole_rests options inputs) ≡ asked_rests options inputs
kept_of_all options inputs = map-map (kept_rest options.filter) (whole_rest options) inputs

-- readers of all samples, each with the filter
pub kept_by_readers : (options : Options) (readers : List (NamingReader SourceReader known rows)) (inputs : List (Format × List ℕ)) → map naming_rest readers ≡ whole_rests options inputs
    → map (λ reader. kept_rest options.filter (naming_rest reader)) readers ≡ asked_rests options inputs
kept_by_readers options readers inputs same =
    sym (map-map (kept_rest options.filter) naming_rest readers)
    ∙ (ap (map (kept_rest options.filter)) same ∙ kept_of_all options inputs)

pub limited_rests : (options : Options) (inputs : List (Format × List ℕ)) → All (λ rest. IsSourceLimited rest.samples) (whole_rests options inputs)
    → All (λ rest. IsSourceLimited rest.samples) (asked_rests options inputs)
limited_rests options inputs limited =
    subst (All (λ (rest : Rest). IsSourceLimited rest.samples)) (kept_of_all options inputs)
    (All-map (λ (rest : Rest). IsSourceLimited rest.samples) (kept_rest options.filter) (whole_rests options inputs)
    (λ k d within. limited_kept options.filter _ (limited k d within)))

pub few_kept : (asked : Filter) (samples : List Sample) → length samples < 2 ^ 64 → length (kept_samples asked samples) < 2 ^ 64
few_kept asked samples few = omega (arith, fewer_kept asked samples, few)

-- ---- lists of sources that were read to their ends

pub kept_of_found : (is_summed : Bool) (options : Options) (inputs : List (Format × List ℕ)) (lists left : List ListState) → AllZip (IsFound is_summed) (whole_rests options inputs) (map seen_as_rest lists)
    → map seen_as_rest left ≡ map (kept_rest options.filter) (map seen_as_rest lists) → AllZip (IsFound is_summed) (asked_rests options inputs) (map seen_as_rest left)
kept_of_found is_summed options inputs lists left each kept =
    subst (AllZip (IsFound is_summed) (asked_rests options inputs)) (sym kept)
    (subst (λ (rests : List Rest). AllZip (IsFound is_summed) rests (map (kept_rest options.filter) (map seen_as_rest lists))) (kept_of_all options inputs)
    (all_found_kept is_summed options.filter (whole_rests options inputs) (map seen_as_rest lists) each))

pub weight_of_found : (is_summed : Bool) (options : Options) (inputs : List (Format × List ℕ)) (lists : List ListState) → AllZip (IsFound is_summed) (whole_rests options inputs) (map seen_as_rest lists)
    → total_weight (all_samples (samples_of lists)) ≡ whole_weight options inputs
weight_of_found is_summed options inputs lists each =
    ap (λ (samples : List (List Sample)). total_weight (all_samples samples)) (samples_of_rests lists (map seen_as_rest lists) refl)
    ∙ (found_weight is_summed (whole_rests options inputs) (map seen_as_rest lists) each
    ∙ ap (λ (samples : List (List Sample)). total_weight (all_samples samples)) (map-map (λ (rest : Rest). rest.samples) (whole_rest options) inputs))

-- no gate stopped them
whole_collects : (may_stop may_go : ℕ → ℕ → Type 0) (rests : List Rest) (lists : List ListState) → ((source index : ℕ) → may_go source index) → AreWhole rests lists → Collects may_stop may_go rests lists
whole_collects may_stop may_go rests lists goes whole = record {
  count = sym (length-map lists seen_as_rest) ∙ ap length whole;
  each = λ source rest list of_rests of_lists.
      let here : Some (seen_as_rest list) ≡ Some rest =
      ap (option_map seen_as_rest) (sym of_lists)
      ∙ (sym (slice_get-map seen_as_rest lists source) ∙ (ap (λ (rests : List Rest). slice_get rests source) whole ∙ of_rests)) in
      IsCollected.Whole (λ index below. goes source index) (cc here);
}

open_reads : (rests : List Rest) (lists : List ListState) (order : List ℕ) → AllZip (IsFound false) rests (map seen_as_rest lists) → IsInterleaving order (samples_of lists)
    → ReadsLists (λ _ _. ⊥) (λ _ _. Unit {0}) rests lists order
open_reads rests lists order each ordered =
    let whole : AreWhole rests lists = found_same rests (map seen_as_rest lists) each in
    record { collected = whole_collects (λ _ _. ⊥) (λ _ _. Unit {0}) rests lists (λ source index. tt) whole; whole = λ _. whole; ordered = ordered }

-- where samples are not summed, each list is all of them
pub open_run : (options : Options) (known : Option (List (Format × List ℕ))) (result : Result Run RunFault)
    → IfOk result (λ run. IfSome known (λ sources. AllZip (IsFound false) (asked_rests options sources) (map seen_as_rest run.kept.lists))) → IfOk result (λ run. IsInterleaving run.kept.order (samples_of run.kept.lists))
    → IfOk result (λ run. IfSome known (λ sources. ReadsLists (λ _ _. ⊥) (λ _ _. Unit {0}) (asked_rests options sources) run.kept.lists run.kept.order))
open_run options known (Err fault) found ordered = tt
open_run options known (Ok run) found ordered =
    if_some known (λ sources. AllZip (IsFound false) (asked_rests options sources) (map seen_as_rest run.kept.lists)) (λ sources. ReadsLists (λ _ _. ⊥) (λ _ _. Unit {0}) (asked_rests options sources) run.kept.lists run.kept.order)
    (λ sources each. open_reads (asked_rests options sources) run.kept.lists run.kept.order each ordered) found

-- what a filter keeps of a list ends as it does
pub kept_out : (asked : Filter) (lists left : List ListState) → map seen_as_rest left ≡ map (kept_rest asked) (map seen_as_rest lists) → All IsReadOut lists → All IsReadOut left
kept_out asked lists [] same out = All-nil IsReadOut
kept_out asked [] (list ∷ left) same out = absurd cc
kept_out asked (one ∷ lists) (list ∷ left) same out =
    All-cons IsReadOut list left (λ after is. out 0 one (omega arith) after (sym (ap (λ (rests : List Rest). (first_rest rests).ending) same) ∙ is))
    (kept_out asked lists left (ap behind_first same) (λ k d within. out (suc k) d (omega (arith, within))))

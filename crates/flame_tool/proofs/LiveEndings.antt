-- How the streams of a live run ended, and how many samples came of each, by the lists that stand for them.
use Rattle.std.proofs.Common.{◌≡◌, ◌∙◌, ◌<◌, ◌++◌, ◌∷◌, [], ℕ, Bool, true, false, List, ap, arith, length, map, refl, subst, sym}
use Rattle.std.specs.List.{list_any, zip}
use Rattle.std.proofs.lemmas.List.{ext_get_or, get_or-map, length-map, take_all}
use Rattle.std.proofs.lemmas.List.FromFn.{get_or-map-range_with_len, length-map-range_with_len}
use Rattle.sample_tables.specs.declared.samples.Sample.{Sample}
use Rattle.stack_core.specs.Interleaving.{AreOf, count_of, counts_at, interleaved, sources_of}
use Rattle.stack_core.specs.Ledgers.{ListState}
use Rattle.stack_core.specs.Reading.{Rest}
use Rattle.stack_core.specs.declared.endings.SourceEnd.{SourceEnd}
use Rattle.stack_core.proofs.InterleavingLemmas.{length-of_source}
use Rattle.merged_stacks.specs.Timeline.{samples_of}
use Rattle.ring_collect.specs.Collection.{FeedsRun}
use Rattle.live_lines.specs.Lines.{live_counts}
use Rattle.live_lines.specs.LiveState.{LiveState}
use Rattle.live_lines.specs.declared.form.LiveForm.{LiveForm}
use Rattle.flame_tool.specs.ToldLive.{is_stopped}
use Rattle.flame_tool.specs.checked.Drawings.{AreEndsOf}
use Rattle.flame_tool.specs.checked.LiveEnds.{anywhere, is_faulty, is_faulty_end, status_by, status_by_ends, status_of_ends}
use Rattle.flame_tool.specs.checked.LiveSaying.{end_of}
use Rattle.flame_tool.proofs.MappedTests.{list_any-map}

zip_of_lists : (lists : List ListState) → zip (map (λ list. list.ending) lists) (map (λ list. length list.samples) lists) ≡ map end_of lists
zip_of_lists [] = refl
zip_of_lists (list ∷ lists) = ap (λ more. end_of list ∷ more) (zip_of_lists lists)

pub ends_are : (endings : List SourceEnd) (counts : List ℕ) (lists : List ListState) → AreEndsOf endings counts lists → zip endings counts ≡ map end_of lists
ends_are endings counts lists are = (λ i. zip (are.endings_are i) (are.counts_are i)) ∙ zip_of_lists lists

-- ---- the exit status

faulty_ends : (is_strict : Bool) (lists : List ListState) → list_any (is_faulty_end is_strict) (map end_of lists) ≡ is_faulty is_strict lists
faulty_ends true lists = list_any-map (is_faulty_end true) end_of lists
faulty_ends false lists = list_any-map (is_faulty_end false) end_of lists

pub status_by_lists : (is_strict : Bool) (endings : List SourceEnd) (counts : List ℕ) (lists : List ListState) → AreEndsOf endings counts lists → status_by_ends is_strict endings counts ≡ status_of_ends is_strict lists
status_by_lists is_strict endings counts lists are =
    let stopped : list_any is_stopped endings ≡ list_any (λ (list : ListState). is_stopped list.ending) lists =
    ap (list_any is_stopped) are.endings_are ∙ list_any-map is_stopped (λ (list : ListState). list.ending) lists in
    let faulty : list_any (is_faulty_end is_strict) (zip endings counts) ≡ is_faulty is_strict lists =
    ap (list_any (is_faulty_end is_strict)) (ends_are endings counts lists are) ∙ faulty_ends is_strict lists in
    λ i. status_by (stopped i) (faulty i)

-- ---- what came

sizes : (lists : List ListState) → map length (samples_of lists) ≡ map (λ list. length list.samples) lists
sizes [] = refl
sizes (list ∷ lists) = ap (λ more. length list.samples ∷ more) (sizes lists)

-- of samples that are those of lists, by source, each source has as many as its list
counts_of_lists : (count : ℕ) (pairs : List (ℕ × Sample)) (lists : List (List Sample)) → AreOf pairs lists → length lists ≡ count → live_counts count pairs (length pairs) ≡ map length lists
counts_of_lists count pairs lists of many =
    let long : length (live_counts count pairs (length pairs)) ≡ count = length-map-range_with_len (counts_at (length pairs) (sources_of pairs)) 0 count in
    ext_get_or 0 (live_counts count pairs (length pairs)) (map length lists) (long ∙ (sym many ∙ sym (length-map lists length))) (λ i within.
    let below : i < count = omega (arith, within, long) in
    get_or-map-range_with_len (counts_at (length pairs) (sources_of pairs)) 0 count i i 0 below (omega arith)
    ∙ (ap (count_of i) (take_all (length pairs) (sources_of pairs) (omega (arith, length-map pairs (λ pair. pair.0))))
    ∙ (sym (length-of_source i pairs) ∙ (ap length (of.by_source i) ∙ sym (get_or-map length lists i [] 0 (omega (arith, below, many)))))))

-- a merge that took nothing before counts the samples of each list
pub ends_of_run : (rests : List Rest) (merge merge' : LiveState) (form : LiveForm) (count : ℕ) (endings told : List SourceEnd) (counts : List ℕ) (run : FeedsRun anywhere anywhere rests merge.taken merge'.taken endings)
    → told ≡ endings → merge ≡ record { form = form; sources = count; taken = [] } → count ≡ length rests → merge'.sources ≡ merge.sources → counts ≡ live_counts merge'.sources merge'.taken (length merge'.taken) → AreEndsOf told counts run.found
ends_of_run rests merge merge' form count endings told counts run is starts count_is same counted = record {
  endings_are = is ∙ run.ends;
  counts_are =
      counted
      ∙ counts_of_lists merge'.sources merge'.taken lists (subst (λ (pairs : List (ℕ × Sample)). AreOf pairs lists) (sym taken_is) run.collects.by_source)
      (length-map run.found (λ list. list.samples) ∙ run.collects.lists.count ∙ sym (same ∙ ap (λ (merge : LiveState). merge.sources) starts ∙ count_is))
      ∙ sizes run.found;
}
  where
    lists : List (List Sample)
    lists = samples_of run.found

    taken_is : merge'.taken ≡ interleaved run.arrival (samples_of run.found)
    taken_is = run.collects.sink ∙ ap (λ (merge : LiveState). merge.taken ++ interleaved run.arrival (samples_of run.found)) starts

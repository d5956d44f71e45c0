-- What a live run leaves of the samples that its sink took.
use Rattle.std.proofs.Common.{◌≡◌, ◌<◌, ◌≤◌, ℕ, suc, Bool, true, false, List, [], ◌∷◌, ◌++◌, Option, Some, None, Result, Ok, Err, All, IfErr, length, map, drop, refl, sym, ap, subst, ◌∙◌, arith, inl, inr}
use Rattle.std.specs.Prelude.{if◌then◌else◌, is_some, slice_get}
use Rattle.std.specs.List.{range_with_len}
use Rattle.std.specs.Result.{IsErrAnd}
use Rattle.std.specs.Io.KnownBytes.{Appends}
use Rattle.std.proofs.lemmas.Bool.{cases_lt}
use Rattle.std.proofs.lemmas.List.{append-nil, get_or_past, length-map, take-append-drop}
use Rattle.std.proofs.lemmas.List.FromFn.{get_or-map-range_with_len, length-map-range_with_len}
use Rattle.std.proofs.lemmas.Option.{get_or_from_slice_get, slice_get_within}
use Rattle.byte_io.specs.Pieces.{AppendsFront}
use Rattle.sample_tables.specs.declared.samples.Sample.{Sample}
use Rattle.stack_core.specs.Interleaving.{AreOf, IsInterleaving, interleaved, list_of, of_source, sources_of}
use Rattle.stack_core.specs.Ledgers.{ListState}
use Rattle.stack_core.specs.Prefixes.{IsPrefixOf}
use Rattle.stack_core.specs.Reading.{Rest}
use Rattle.stack_core.specs.Told.{IsCollected}
use Rattle.stack_core.proofs.InterleavingLemmas.{AreOf-IsInterleaving, AreOf-interleaved, of_source_past}
use Rattle.merged_stacks.specs.Timeline.{samples_of}
use Rattle.command_line.specs.declared.plans.Plan.{Plan}
use Rattle.command_line.specs.declared.plans.View.TheVariants.{Graph}
use Rattle.ring_collect.specs.Collection.{AnswersFeed, Collects, CollectsRun, GainsFirst, GainsOf, seen_as_rest}
use Rattle.ring_collect.specs.declared.faults.CollectFault.{CollectFault}
use Rattle.ring_collect.specs.declared.faults.CollectFault.TheVariants as collect
use Rattle.ring_collect.proofs.RoundLemmas.{slice_get_map}
use Rattle.ring_collect.proofs.RunLemmas.{at_index}
use Rattle.source_views.specs.Texts.{view_text}
use Rattle.source_views.proofs.SnapshotLines.{front_more, front_of_nothing}
use Rattle.source_views.specs.Failures.{failure_of_collect}
use Rattle.source_views.specs.declared.failures.Failure.{Failure}
use Rattle.live_lines.specs.Frames.{frames_text}
use Rattle.live_lines.specs.Pages.{pages_text}
use Rattle.live_lines.specs.declared.form.LiveForm.TheVariants.{Lines, Pages, Table}
use Rattle.live_lines.specs.Lines.{end_of, live_lines, live_text}
use Rattle.live_lines.specs.Settings.{counted_numbers, form_number, known_numbers, live_setting}
use Rattle.live_lines.specs.Written.{GrewByFront, grown_by}
use Rattle.live_lines.specs.declared.form.LiveForm.{LiveForm}
use Rattle.live_lines.specs.declared.sink.LiveLines.{LiveLines}
use Rattle.live_lines.proofs.GraphLemmas.{text_is_graph_text}
use Rattle.live_lines.proofs.SettingLemmas.{counted_same, same_form, same_known}
use Rattle.flame_tool.specs.LiveRuns.{AreFirst, ShowsFirstOf, ShowsSomeOf, frames_of, lines_of, live_texts, pages_of}
use Rattle.flame_tool.specs.checked.LiveEnds.{EndsLive, FailsLive, anywhere, form_of, status_of_ends}

-- ---- pairs, by their sources

-- what pairs have of each of so many sources
by_source : ℕ → List (ℕ × Sample) → List (List Sample)
by_source count pairs = map (λ source. of_source source pairs) (range_with_len 0 count)

by_source-length : (count : ℕ) (pairs : List (ℕ × Sample)) → length (by_source count pairs) ≡ count
unfolding by_source
by_source-length count pairs = length-map-range_with_len (λ source. of_source source pairs) 0 count

by_source-at : (count : ℕ) (pairs : List (ℕ × Sample)) (source : ℕ) → source < count → list_of (by_source count pairs) source ≡ of_source source pairs
unfolding by_source
by_source-at count pairs source below = get_or-map-range_with_len (λ source. of_source source pairs) 0 count source source [] below (omega arith)

by_source-past : (count : ℕ) (pairs : List (ℕ × Sample)) (source : ℕ) → count ≤ source → list_of (by_source count pairs) source ≡ []
by_source-past count pairs source past = get_or_past (by_source count pairs) source [] (let count_is = by_source-length count pairs in omega arith)

-- these are their lists, where they have nothing of other sources
are_by_source : (count : ℕ) (pairs : List (ℕ × Sample)) → ((source : ℕ) → count ≤ source → of_source source pairs ≡ []) → AreOf pairs (by_source count pairs)
are_by_source count pairs none = record {
  by_source = λ source. elim (cases_lt source count) [
    | inl below ↦ sym (by_source-at count pairs source below)
    | inr past ↦ none source past ∙ sym (by_source-past count pairs source past)
  ];
}

none_past : (count : ℕ) (pairs : List (ℕ × Sample)) → All (λ (pair : ℕ × Sample). pair.0 < count) pairs → (source : ℕ) → count ≤ source → of_source source pairs ≡ []
none_past count [] below source past = refl
none_past count (pair ∷ pairs) below source past =
    let first : pair.0 < count = below 0 pair (omega arith) in
    of_source_past source pair.0 pair.1 pairs (λ is. omega arith) ∙ none_past count pairs (λ i d within. below (suc i) d (omega arith)) source past

-- ---- what was collected

are_first : (rests : List Rest) (lists : List ListState) → Collects anywhere anywhere rests lists → AreFirst rests (samples_of lists)
are_first rests lists collected = record { count = length-map lists (λ list. list.samples) ∙ collected.count; first = first }
  where
    prefix : (rest : Rest) (list : ListState) (source : ℕ) → IsCollected anywhere anywhere source rest (seen_as_rest list) → IsPrefixOf list.samples rest.samples
    prefix rest list source (IsCollected.Whole goes same) = ([], append-nil list.samples ∙ ap (λ (rest : Rest). rest.samples) same)
    prefix rest list source (IsCollected.StoppedAt i within stops goes same) =
        (drop i rest.samples, ap (λ (found : Rest). found.samples ++ drop i rest.samples) same ∙ take-append-drop i rest.samples)

    first : (source : ℕ) (rest : Rest) → slice_get rests source ≡ Some rest → IsPrefixOf (list_of (samples_of lists) source) rest.samples
    first source rest is =
        let below = slice_get_within rests source rest is in
        let count = collected.count in
        let list = at_index lists source (omega arith) in
        let samples : list_of (samples_of lists) source ≡ list.0.samples = get_or_from_slice_get (samples_of lists) source list.0.samples [] (slice_get_map (λ list. list.samples) lists source list.0 list.1) in
        subst (λ (found : List Sample). IsPrefixOf found rest.samples) (sym samples) (prefix rest list.0 source (collected.each source rest list.0 is list.1))

-- ---- what the sink wrote

module _ (plan : Plan) (width every : ℕ) (graph : plan.view ≡ Graph width) (often : plan.options.every ≡ Some every) where
  -- what is written of samples that came in an order is what is promised of their lists
  text_by : (has_pages is_terminal : Bool) (lists : List (List Sample)) (order : List ℕ) (count : ℕ) → IsInterleaving order lists → length lists ≡ count
      → live_text (if has_pages then Pages else (if is_terminal then Table every else Lines)) count width every (interleaved order lists)
      ≡ (if has_pages then pages_of plan else (if is_terminal then frames_of plan else lines_of plan)) lists order
  text_by true is_terminal lists order count ordered long =
      ap (λ (often : Option ℕ). elim often [ None ↦ [] | Some every ↦ pages_text every (interleaved order lists) ]) (sym often)
  text_by false false lists order count ordered long =
      text_is_graph_text count width every lists order ordered long
      ∙ (ap (λ every. view_text (Graph width) lists order every) (sym often) ∙ ap (λ view. view_text view lists order plan.options.every) (sym graph))
  text_by false true lists order count ordered long =
      ap (λ n. frames_text every n (interleaved order lists)) (sym long)
      ∙ ap (λ (often : Option ℕ). elim often [ None ↦ [] | Some every ↦ frames_text every (length lists) (interleaved order lists) ]) (sym often)

  text_is : (is_terminal : Bool) (lists : List (List Sample)) (order : List ℕ) (count : ℕ) → IsInterleaving order lists → length lists ≡ count
      → live_text (form_of is_terminal plan every) count width every (interleaved order lists) ≡ live_texts is_terminal plan lists order
  text_is = text_by (is_some plan.pages)

  module _ (is_terminal : Bool) (old new : Option (List ℕ)) (count : ℕ) (taken : List (ℕ × Sample)) where
    lines_by_source : AreOf taken (by_source count taken) → AppendsFront (live_lines (form_of is_terminal plan every) count width every taken) old new → AppendsFront (live_texts is_terminal plan (by_source count taken) (sources_of taken)) old new
    lines_by_source of gained =
        let lists = by_source count taken in
        let order = sources_of taken in
        let form = form_of is_terminal plan every in
        let same : live_text form count width every taken ≡ live_texts is_terminal plan lists order =
        ap (live_text form count width every) (sym (AreOf-interleaved taken lists of)) ∙ text_is is_terminal lists order count (AreOf-IsInterleaving taken lists of) (by_source-length count taken) in
        subst (λ text. AppendsFront text old new) same (front_more (live_lines form count width every taken) (end_of form width taken) old new gained)

    -- of a run that was refused memory or a thread
    pub first_shown : (rests : List Rest) → count ≡ length rests → GainsFirst rests [] taken → AppendsFront (live_lines (form_of is_terminal plan every) count width every taken) old new → ShowsFirstOf (live_texts is_terminal plan) old new rests
    first_shown rests count_is gains gained =
        let of = are_by_source count taken (λ source past. let no_more = gains.no_more in ap (of_source source) gains.gained ∙ gains.of_lists.by_source source ∙ get_or_past gains.lists source [] (omega arith)) in
        record {
          lists = by_source count taken;
          are_first = record {
            count = by_source-length count taken ∙ count_is;
            first = λ source rest is.
                let below = slice_get_within rests source rest is in
                let same : list_of (by_source count taken) source ≡ list_of gains.lists source = by_source-at count taken source (omega arith) ∙ ap (of_source source) gains.gained ∙ gains.of_lists.by_source source in
                subst (λ (found : List Sample). IsPrefixOf found rest.samples) (sym same) (gains.first source rest is);
          };
          order = sources_of taken;
          ordered = AreOf-IsInterleaving taken (by_source count taken) of;
          gained = lines_by_source of gained;
        }

    -- of a run of which it isn't known whether all was received
    pub some_shown : (rests : List Rest) → count ≡ length rests → GainsOf (length rests) [] taken → AppendsFront (live_lines (form_of is_terminal plan every) count width every taken) old new → ShowsSomeOf (live_texts is_terminal plan) old new (length rests)
    some_shown rests count_is gains gained =
        let below : All (λ (pair : ℕ × Sample). pair.0 < count) taken =
        subst (λ (pairs : List (ℕ × Sample)). All (λ (pair : ℕ × Sample). pair.0 < count) pairs) (sym gains.gained) (subst (λ n. All (λ (pair : ℕ × Sample). pair.0 < n) gains.pairs) (sym count_is) gains.sources) in
        let of = are_by_source count taken (none_past count taken below) in
        record {
          lists = by_source count taken;
          as_many = by_source-length count taken ∙ count_is;
          order = sources_of taken;
          ordered = AreOf-IsInterleaving taken (by_source count taken) of;
          gained = lines_by_source of gained;
        }

  -- nothing went out
  pub none_shown : (is_terminal : Bool) (out : Option (List ℕ)) (rests : List Rest) → ShowsFirstOf (live_texts is_terminal plan) out out rests
  none_shown is_terminal out rests =
      let of = are_by_source (length rests) [] (λ source past. refl) in
      record {
        lists = by_source (length rests) [];
        are_first = record {
          count = by_source-length (length rests) [];
          first = λ source rest is. subst (λ (found : List Sample). IsPrefixOf found rest.samples) (sym (by_source-at (length rests) [] source (slice_get_within rests source rest is))) (rest.samples, refl);
        };
        order = [];
        ordered = AreOf-IsInterleaving [] (by_source (length rests) []) of;
        gained = front_of_nothing (live_texts is_terminal plan (by_source (length rests) []) []) out;
      }

  -- all was collected
  module _ (is_terminal : Bool) (old new : Option (List ℕ)) (rests : List Rest) (taken : List (ℕ × Sample)) (lists : List ListState) (order : List ℕ) (run : CollectsRun anywhere anywhere rests [] taken lists order)
      (text : List ℕ) (is_text : text ≡ live_texts is_terminal plan (samples_of lists) order) where
    pub all_shown : Appends old new text → EndsLive is_terminal plan old new (status_of_ends plan.is_strict lists) rests
    all_shown gained = record {
      lists = lists;
      collected = run.lists;
      order = order;
      ordered = run.order;
      gained = subst (Appends old new) is_text gained;
      told = refl;
    }

    -- and its lines were not sent whole
    pub part_shown : AppendsFront text old new → ShowsFirstOf (live_texts is_terminal plan) old new rests
    part_shown gained = record {
      lists = samples_of lists;
      are_first = are_first rests lists run.lists;
      order = order;
      ordered = run.order;
      gained = subst (λ text. AppendsFront text old new) is_text gained;
    }

-- ---- what no sample changes

-- a sink writes to the same outlet, of which the same is known, and what no end changes of its teller is the same
pub record SameSetting (name name' : ℕ) (contents contents' : Option (List ℕ)) (failures failures' : ℕ) (form form' : LiveForm) (sources sources' width width' every every' : ℕ) (kept kept' : List ℕ) : Type 0 where
  pub name_is : name' ≡ name
  pub contents_are : contents' ≡ contents
  pub failures_are : failures' ≡ failures
  pub form_is : form' ≡ form
  pub sources_are : sources' ≡ sources
  pub width_is : width' ≡ width
  pub every_is : every' ≡ every
  pub kept_is : kept' ≡ kept

pub same_setting : {W : Type 0} (known : W → Option (List ℕ)) (failures : W → ℕ) (name name' : ℕ) (lines lines' : LiveLines W) (kept kept' : List ℕ)
    → live_setting name' (known lines'.start.value) (failures lines'.start.value) lines'.merge.form lines'.merge.sources lines'.width lines'.every kept'
    ≡ live_setting name (known lines.start.value) (failures lines.start.value) lines.merge.form lines.merge.sources lines.width lines.every kept
    → SameSetting name name' (known lines.start.value) (known lines'.start.value) (failures lines.start.value) (failures lines'.start.value) lines.merge.form lines'.merge.form
    lines.merge.sources lines'.merge.sources lines.width lines'.width lines.every lines'.every kept kept'
same_setting known failures name name' lines lines' kept kept' is =
    let rest : counted_numbers (known_numbers (known lines'.start.value)) ++ kept' ≡ counted_numbers (known_numbers (known lines.start.value)) ++ kept = cc in
    let both = counted_same (known_numbers (known lines'.start.value)) (known_numbers (known lines.start.value)) kept' kept rest in
    record {
      name_is = cc;
      contents_are = same_known (known lines'.start.value) (known lines.start.value) both.0;
      failures_are = cc;
      form_is = let same : form_number lines'.merge.form ≡ form_number lines.merge.form = cc in same_form lines'.merge.form lines.merge.form same;
      sources_are = cc;
      width_is = cc;
      every_is = cc;
      kept_is = both.1;
    }

-- so what it wrote is a front of the lines as they were asked for
pub front_of_sink : {name name' : ℕ} {contents contents' : Option (List ℕ)} {failures failures' : ℕ} {form form' : LiveForm} {sources sources' width width' every every' : ℕ} {kept kept' : List ℕ} (taken : List (ℕ × Sample)) (out : Option (List ℕ))
    → SameSetting name name' contents contents' failures failures' form form' sources sources' width width' every every' kept kept'
    → GrewByFront (live_lines form' sources' width' every' taken) contents' out → AppendsFront (live_lines form sources width every taken) contents out
front_of_sink {contents = contents} {contents' = contents'} {form = form} {form' = form'} {sources = sources} {sources' = sources'} {width = width} {width' = width'} {every = every} {every' = every'} taken out same grew =
    subst (λ f. AppendsFront (live_lines f sources width every taken) contents out) same.form_is
    (subst (λ n. AppendsFront (live_lines form' n width every taken) contents out) same.sources_are
    (subst (λ n. AppendsFront (live_lines form' sources' n every taken) contents out) same.width_is
    (subst (λ n. AppendsFront (live_lines form' sources' width' n taken) contents out) same.every_is
    (subst (λ known. AppendsFront (live_lines form' sources' width' every' taken) known out) same.contents_are (grown_by contents' out, grew)))))

pub drawn_text : (plan : Plan) (width every : ℕ) (is_terminal : Bool) → plan.view ≡ Graph width → plan.options.every ≡ Some every → (form : LiveForm) → form ≡ form_of is_terminal plan every
    → (rests : List Rest) (taken : List (ℕ × Sample)) (lists : List ListState) (order : List ℕ) → CollectsRun anywhere anywhere rests [] taken lists order → live_text form (length rests) width every taken ≡ live_texts is_terminal plan (samples_of lists) order
drawn_text plan width every is_terminal graph often form formed rests taken lists order run =
    (λ i. live_text (formed i) (length rests) width every (run.sink i))
    ∙ text_is plan width every graph often is_terminal (samples_of lists) order (length rests) run.order (length-map lists (λ list. list.samples) ∙ run.lists.count)

-- ---- results

-- what is left where collecting failed
pub collect_failed : (plan : Plan) (width every : ℕ) (is_terminal : Bool) → plan.view ≡ Graph width → plan.options.every ≡ Some every → (old new : Option (List ℕ)) (count : ℕ) (taken taken' : List (ℕ × Sample))
    → (rests : List Rest) → count ≡ length rests → taken ≡ [] → (fault : CollectFault) → AnswersFeed anywhere anywhere rests taken taken' (Err fault) → AppendsFront (live_lines (form_of is_terminal plan every) count width every taken') old new
    → FailsLive is_terminal plan old new (failure_of_collect fault) rests
collect_failed plan width every is_terminal graph often old new count taken taken' rests count_is none fault answer gained =
    by fault (subst (λ (taken : List (ℕ × Sample)). AnswersFeed anywhere anywhere rests taken taken' (Err fault)) none answer)
  where
    by : (fault : CollectFault) → AnswersFeed anywhere anywhere rests [] taken' (Err fault) → FailsLive is_terminal plan old new (failure_of_collect fault) rests
    by collect.OutOfMemory answer = first_shown plan width every graph often is_terminal old new count taken' rests count_is (answer.refused (inl refl)) gained
    by collect.NoThread answer = first_shown plan width every graph often is_terminal old new count taken' rests count_is (answer.refused (inr refl)) gained
    by (collect.Unfinished source) answer = some_shown plan width every graph often is_terminal old new count taken' rests count_is (answer.unfinished source refl).gains gained

pub err_because : {T : Type 0} (result : Result T Failure) (failure : Failure) (P : Failure → Type 0) → IsErrAnd result (λ error. error ≡ failure) → P failure → IfErr result P
err_because (Ok x) failure P is holds = tt
err_because (Err error) failure P is holds = subst P (sym is) holds

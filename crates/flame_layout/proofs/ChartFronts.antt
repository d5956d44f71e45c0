-- a sample in front of what was walked, where the runs are known by where they end
use Rattle.std.proofs.Common.{◌≡◌, ℕ, ◌+◌, ◌-◌, ◌≤◌, ◌<◌, List, [], ◌∷◌, ◌++◌, length, take, drop, map, reverse, get_or, set, sym, ◌∙◌, ap, arith, subst, All, None, Some, IfSome, Option}
use Rattle.std.specs.List.{range_with_len}
use Rattle.std.specs.Option.{IfNone}
use Rattle.std.proofs.lemmas.List.{append-nil, get_or_default, get_or-map, length-set}
use Rattle.sample_tables.specs.declared.samples.Sample.{Sample}
use Rattle.stack_core.specs.Interleaving.{list_of}
use Rattle.stack_core.specs.Ledgers.{ListState}
use Rattle.flame_layout.specs.declared.boxes.SpanBox.{SpanBox}
use Rattle.flame_layout.specs.declared.chart_runs.RunStart.{RunStart}
use Rattle.flame_layout.specs.declared.chart_walks.ChartWalk.{ChartWalk}
use Rattle.flame_layout.specs.declared.chart_walks.OpenEnd.{OpenEnd}
use Rattle.merged_stacks.specs.Timeline.{Stack, samples_of}
use Rattle.flame_layout.specs.Chart.{chart_of, names_shared}
use Rattle.flame_layout.specs.checked.Walk.{IsWalk, Run, boxes_of_runs, new_run, shared_runs_of}
use Rattle.flame_layout.specs.checked.ChartRuns.{IsThere, stack_at}
use Rattle.flame_layout.specs.checked.ChartWalks.{IsChartWalk, IsFrontOf, named_run, named_runs, runs_in, runs_under}
use Rattle.flame_layout.proofs.NamedRuns.{no_end, named_runs-at, named_runs-length, named_runs-names, named_runs-set}
use Rattle.flame_layout.proofs.Walked.{walk-begun, walk-ends, walk-enters, walk-length-after, walk-room}
use Rattle.flame_layout.proofs.WalkSteps.{shared_runs-some}

-- how many runs of a stack go on under another
pub shared_named : (stack other : Stack) (ends : List OpenEnd) → length ends ≡ length other + 1 → shared_runs_of stack (named_runs other ends) ≡ names_shared stack other + 1
shared_named stack other ends h =
    shared_runs-some stack (named_runs other ends) (omega (arith, h, named_runs-length other ends))
    ∙ ap (λ names. names_shared stack names + 1) (named_runs-names other ends h)

-- no run ends before the front
pub ends-begun : (start : ℕ) (stack : Stack) (ends : List OpenEnd) (boxes : List SpanBox) (samples : List Sample) → IsWalk start (named_runs stack ends) boxes samples → All (λ going. start ≤ going.end) ends
ends-begun start stack ends boxes samples w k d h =
    let run = named_run stack (0, no_end) in
    let at = walk-begun start (named_runs stack ends) boxes samples w k run (omega (arith, h, named_runs-length stack ends)) in
    let read = named_runs-at stack ends k d run h in
    omega (arith, at, ap (λ (r : Run). r.end) read)

-- the runs at the front are those of its stack
pub front-runs : {S : Type 0} (walk : ChartWalk S) (front : RunStart) → walk.front ≡ Some front → runs_in walk ≡ named_runs (stack_at walk.chart.lists front) walk.ends.items
front-runs walk front e = ap (λ (o : Option RunStart). runs_under walk.chart.lists o walk.ends.items) e

pub front-is : {S : Type 0} (start : ℕ) (walk : ChartWalk S) (front : RunStart) (samples : List Sample) → walk.front ≡ Some front → IsChartWalk start walk samples → IsFrontOf walk.chart.lists start walk.ends.items front
front-is start walk front samples e w = subst (λ (o : Option RunStart). IfSome o (IsFrontOf walk.chart.lists start walk.ends.items)) e w.front

-- how many runs go on under a stack
pub front-kept : {S : Type 0} (start : ℕ) (walk : ChartWalk S) (front : RunStart) (samples : List Sample) (stack : Stack) (keep : ℕ) → walk.front ≡ Some front → IsChartWalk start walk samples →
    keep ≡ names_shared stack (stack_at walk.chart.lists front) → keep + 1 ≡ shared_runs_of stack (runs_in walk)
front-kept start walk front samples stack keep e w is =
    ap (λ n. n + 1) is ∙ (sym (shared_named stack (stack_at walk.chart.lists front) walk.ends.items (front-is start walk front samples e w).deep) ∙ ap (shared_runs_of stack) (sym (front-runs walk front e)))

-- the runs once those that don't go on were closed and the new ones have begun
entry-is : (start : ℕ) (runs : List Run) (p : Sample) (mid more : List OpenEnd) →
    length mid ≡ shared_runs_of p.stack runs → named_runs p.stack mid ≡ take (shared_runs_of p.stack runs) runs →
    named_runs p.stack more ≡ named_runs p.stack mid ++ map (new_run p.stack start) (range_with_len (length mid) (length p.stack + 1 - length mid)) →
    named_runs p.stack more ≡ take (shared_runs_of p.stack runs) runs ++ map (new_run p.stack start) (range_with_len (shared_runs_of p.stack runs) (length p.stack + 1 - shared_runs_of p.stack runs))
entry-is start runs p mid more many kept is =
    is ∙ (λ i. kept i ++ map (new_run p.stack start) (range_with_len (many i) (length p.stack + 1 - many i)))

-- one for each depth
pub entry-length : {S : Type 0} (start : ℕ) (walk : ChartWalk S) (samples : List Sample) (p : Sample) (mid more : List OpenEnd) → IsChartWalk start walk samples →
    length mid ≡ shared_runs_of p.stack (runs_in walk) → named_runs p.stack mid ≡ take (shared_runs_of p.stack (runs_in walk)) (runs_in walk) →
    named_runs p.stack more ≡ named_runs p.stack mid ++ map (new_run p.stack start) (range_with_len (length mid) (length p.stack + 1 - length mid)) →
    length more ≡ length p.stack + 1
entry-length start walk samples p mid more w many kept is =
    sym (named_runs-length p.stack more)
    ∙ walk-length-after start (runs_in walk) (named_runs p.stack more) walk.chart.spans samples p w.walked (entry-is start (runs_in walk) p mid more many kept is)

-- the deepest one has room for the sample's weight
pub entry-room : {S : Type 0} (start : ℕ) (walk : ChartWalk S) (samples : List Sample) (p : Sample) (mid more : List OpenEnd) (last : OpenEnd) → IsChartWalk start walk samples →
    length mid ≡ shared_runs_of p.stack (runs_in walk) → named_runs p.stack mid ≡ take (shared_runs_of p.stack (runs_in walk)) (runs_in walk) →
    named_runs p.stack more ≡ named_runs p.stack mid ++ map (new_run p.stack start) (range_with_len (length mid) (length p.stack + 1 - length mid)) →
    get_or more (length p.stack) last ≡ last → last.own + start ≤ last.end
entry-room start walk samples p mid more last w many kept is read =
    let run = named_run p.stack (length p.stack, last) in
    let long = entry-length start walk samples p mid more w many kept is in
    walk-room start (runs_in walk) (named_runs p.stack more) run walk.chart.spans samples p w.walked (entry-is start (runs_in walk) p mid more many kept is)
    (named_runs-at p.stack more (length p.stack) last run (omega (arith, long)) ∙ ap (λ e. named_run p.stack (length p.stack, e)) read)

-- the state of the walk once the sample's weight is added
pub chart-entered : {S : Type 0} (start before : ℕ) (old new : ChartWalk S) (samples : List Sample) (p : Sample) (mid more : List OpenEnd) (last : OpenEnd) (front : RunStart) →
    length p.stack ≤ 4096 → before + p.weight ≡ start → IsChartWalk start old samples →
    length mid ≡ shared_runs_of p.stack (runs_in old) → named_runs p.stack mid ≡ take (shared_runs_of p.stack (runs_in old)) (runs_in old) →
    named_runs p.stack more ≡ named_runs p.stack mid ++ map (new_run p.stack start) (range_with_len (length mid) (length p.stack + 1 - length mid)) →
    get_or more (length p.stack) last ≡ last →
    new.chart.spans ≡ old.chart.spans ++ reverse (drop (shared_runs_of p.stack (runs_in old)) (boxes_of_runs start (runs_in old))) →
    new.ends.items ≡ set more (length p.stack) (record { end = last.end; own = last.own + p.weight }) →
    new.front ≡ Some front → IsThere new.chart.lists front → stack_at new.chart.lists front ≡ p.stack → front.start ≡ before →
    IsChartWalk before new (p ∷ samples)
chart-entered start before old new samples p mid more last front few e w many kept is read spans ends at_front there stack begins = record {
  front = subst (λ (o : Option RunStart). IfSome o (IsFrontOf new.chart.lists before new.ends.items)) (sym at_front) (record {
    there = there;
    begins = begins;
    deep = ap length ends ∙ (length-set more (length p.stack) added ∙ (long ∙ ap (λ s. length s + 1) (sym stack)));
  });
  none = subst (λ (o : Option RunStart). IfNone o (new.ends.items ≡ [])) (sym at_front) tt;
  walked = subst (λ (runs : List Run). IsWalk before runs new.chart.spans (p ∷ samples)) (sym runs) entered;
}
  where
    run : Run
    run = named_run p.stack (length p.stack, last)

    added : OpenEnd
    added = record { end = last.end; own = last.own + p.weight }

    long : length more ≡ length p.stack + 1
    long = entry-length start old samples p mid more w many kept is

    at_last : (d : Run) → get_or (named_runs p.stack more) (length p.stack) d ≡ run
    at_last d = named_runs-at p.stack more (length p.stack) last d (omega (arith, long)) ∙ ap (λ o. named_run p.stack (length p.stack, o)) read

    entered : IsWalk before (set (named_runs p.stack more) (length p.stack) (record run { own = run.own + p.weight })) new.chart.spans (p ∷ samples)
    entered = walk-enters start before (runs_in old) (named_runs p.stack more) run old.chart.spans new.chart.spans samples p few e w.walked (entry-is start (runs_in old) p mid more many kept is) at_last spans

    runs : runs_in new ≡ set (named_runs p.stack more) (length p.stack) (record run { own = run.own + p.weight })
    runs = ap (λ (o : Option RunStart). runs_under new.chart.lists o new.ends.items) at_front
        ∙ ((λ i. named_runs (stack i) (ends i)) ∙ named_runs-set p.stack more (length p.stack) added (omega (arith, long)))

-- at the end all runs are closed
pub chart-ends : {S : Type 0} (walk : ChartWalk S) (front : RunStart) (boxes : List SpanBox) (samples : List Sample) → walk.front ≡ Some front → IsChartWalk 0 walk samples →
    boxes ≡ walk.chart.spans ++ reverse (drop 0 (boxes_of_runs front.start (named_runs (stack_at walk.chart.lists front) walk.ends.items))) → reverse boxes ≡ chart_of samples
chart-ends walk front boxes samples e w is =
    let begins : front.start ≡ 0 = (front-is 0 walk front samples e w).begins in
    walk-ends (runs_in walk) walk.chart.spans boxes samples w.walked
    (is ∙ (λ i. walk.chart.spans ++ reverse (drop 0 (boxes_of_runs (begins i) (sym (front-runs walk front e) i)))))

-- and where nothing was walked there is no box
pub chart-ends-none : {S : Type 0} (walk : ChartWalk S) (samples : List Sample) → walk.front ≡ None → IsChartWalk 0 walk samples → reverse walk.chart.spans ≡ chart_of samples
chart-ends-none walk samples e w =
    let none : runs_in walk ≡ [] = ap (λ (o : Option RunStart). runs_under walk.chart.lists o walk.ends.items) e in
    walk-ends (runs_in walk) walk.chart.spans walk.chart.spans samples w.walked
    (sym (append-nil walk.chart.spans) ∙ (λ i. walk.chart.spans ++ reverse (drop 0 (boxes_of_runs 0 (sym none i)))))

-- a list at its place
pub list-there : (lists : List ListState) (at : ℕ) → at < length lists → (list : ListState) × (list ≡ get_or lists at list) × (list_of (samples_of lists) at ≡ list.samples)
list-there [] at h = absurd (omega (arith, h))
list-there (first ∷ rest) at h =
    let list = get_or (first ∷ rest) at first in
    let is : list ≡ get_or (first ∷ rest) at list = get_or_default (first ∷ rest) at first list h in
    (list, is, get_or-map (λ (l : ListState). l.samples) (first ∷ rest) at list [] h ∙ ap (λ (l : ListState). l.samples) (sym is))

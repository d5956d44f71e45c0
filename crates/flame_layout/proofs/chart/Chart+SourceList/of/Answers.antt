use Rattle.std.proofs.Common.{[], ◌≡◌, ℕ, ◌+◌, ◌-◌, ◌<◌, ◌≤◌, ◌++◌, ◌∙◌, sym, ap, arith, drop, length, subst, List, All}
use Rattle.std.proofs.lemmas.List.{drop_all}
use Rattle.sample_tables.specs.declared.samples.Sample.{Sample}
use Rattle.stack_core.specs.Interleaving.{list_of}
use Rattle.stack_core.specs.Ledgers.{ListState}
use Rattle.merged_stacks.specs.Timeline.{drawn, timeline, samples_of, total_weight}
use Rattle.merged_stacks.proofs.Timelines.{timeline-drop, timeline_weight-drop, timeline_weight-drop_le}
use Rattle.flame_layout.specs.declared.boxes.SpanBox.{SpanBox}
use Rattle.flame_layout.specs.declared.chart_walks.ChartWalk.{ChartWalk}
use Rattle.flame_layout.specs.checked.ChartWalks.{IsChartWalk}
use Rattle.flame_layout.proofs.ChartFronts.{list-there}
use Rattle.flame_layout.proofs.Geometry.{chart-within}
use Rattle.flame_layout.proofs.Timelines.{timeline-chart_positive}
use Rattle.flame_layout.proofs.chart.Chart+SourceList.of.Goals as goal

pub loop-index-init : goal.loop-index-init
loop-index-init c =
    let lists = c.args.lists.now in
    let none : timeline (samples_of (drop (length lists) lists)) ≡ [] = ap (λ (ls : List ListState). timeline (samples_of ls)) (drop_all (length lists) lists (omega arith)) in
    record {
      lists = c.new-walk.ensures.lists ∙ c.in_ok-lent.ensures;
      start = omega (arith, c.total_weight-start.ensures, ap total_weight none);
      walked = subst (λ (xs : List Sample). IsChartWalk c.total_weight-start.result c.new-walk.result xs) (sym none) (c.new-walk.ensures.walked c.total_weight-start.result);
    }

pub enter_samples-requires-clause-room : goal.enter_samples-requires-clause-room
enter_samples-requires-clause-room c =
    let lists = c.args.lists.now in
    let i = c.loop-index.index - 1 in
    let there = list-there lists i (omega arith) in
    let more = timeline_weight-drop lists i c.loop-index.index there.0 (omega arith) (omega arith) there.1 in
    let same = ap (λ (ls : List (List Sample)). total_weight (list_of ls i)) c.loop-index.invariant.lists in
    omega (arith, same, ap total_weight there.2, more, c.loop-index.invariant.start, timeline_weight-drop_le lists i)

pub loop-index-preserved : goal.loop-index-preserved
loop-index-preserved c =
    let lists = c.args.lists.now in
    let i = c.loop-index.index - 1 in
    let next : c.loop-index.index ≡ i + 1 = omega arith in
    let within : i < length lists = omega arith in
    let there = list-there lists i within in
    let more = timeline_weight-drop lists i c.loop-index.index there.0 next within there.1 in
    let samples : list_of c.loop-index.walk.chart.lists i ≡ there.0.samples = ap (λ (ls : List (List Sample)). list_of ls i) c.loop-index.invariant.lists ∙ there.2 in
    let first : timeline (samples_of (drop i lists)) ≡ drawn (list_of c.loop-index.walk.chart.lists i) ++ timeline (samples_of (drop c.loop-index.index lists)) =
    timeline-drop lists i c.loop-index.index there.0 next within there.1 ∙ ap (λ xs. drawn xs ++ timeline (samples_of (drop c.loop-index.index lists))) (sym samples) in
    record {
      lists = c.in_ok-start.ensures.lists ∙ c.loop-index.invariant.lists;
      start = omega (arith, more, ap total_weight samples, c.loop-index.invariant.start, c.in_ok-start.ensures.start);
      walked = subst (λ (xs : List Sample). IsChartWalk c.in_ok-start.start c.enter_samples.new.walk xs) (sym first)
          (c.in_ok-start.ensures.walked (timeline (samples_of (drop c.loop-index.index lists))) c.loop-index.invariant.walked);
    }

-- at the end all is walked, from 0 on
walked_all : {S : Type 0} (lists : List ListState) (i start : ℕ) (walk : ChartWalk S) → i ≤ 0 → start + total_weight (timeline (samples_of (drop i lists))) ≡ total_weight (timeline (samples_of lists))
    → IsChartWalk start walk (timeline (samples_of (drop i lists))) → IsChartWalk 0 walk (timeline (samples_of lists))
walked_all lists i start walk low sum walked =
    let none : i ≡ 0 = omega arith in
    let at_start : start ≡ 0 = omega (arith, sum, ap (λ n. total_weight (timeline (samples_of (drop n lists)))) none) in
    subst (λ n. IsChartWalk n walk (timeline (samples_of lists))) at_start (subst (λ n. IsChartWalk start walk (timeline (samples_of (drop n lists)))) none walked)

pub end-requires : goal.end-requires
end-requires c =
    (timeline (samples_of c.args.lists.now), walked_all c.args.lists.now c.loop-index.index c.loop-index.start c.loop-index.walk (omega arith) c.loop-index.invariant.start c.loop-index.invariant.walked)

pub returns-clause-chart : goal.returns-clause-chart
returns-clause-chart c =
    c.in_ok-runs.ensures (timeline (samples_of c.args.lists.now)) (walked_all c.args.lists.now c.loop-index.index c.loop-index.start c.loop-index.walk (omega arith) c.loop-index.invariant.start c.loop-index.invariant.walked)

pub returns-clause-within : goal.returns-clause-within
returns-clause-within c =
    let samples = timeline (samples_of c.args.lists.now) in
    let is = c.in_ok-runs.ensures samples (walked_all c.args.lists.now c.loop-index.index c.loop-index.start c.loop-index.walk (omega arith) c.loop-index.invariant.start c.loop-index.invariant.walked) in
    subst (λ (boxes : List SpanBox). All (λ span. span.start + span.weight ≤ total_weight samples) boxes) (sym is) (chart-within samples)

pub returns-clause-positive : goal.returns-clause-positive
returns-clause-positive c some =
    let samples = timeline (samples_of c.args.lists.now) in
    let is = c.in_ok-runs.ensures samples (walked_all c.args.lists.now c.loop-index.index c.loop-index.start c.loop-index.walk (omega arith) c.loop-index.invariant.start c.loop-index.invariant.walked) in
    timeline-chart_positive (samples_of c.args.lists.now) (omega (arith, some, ap length is))

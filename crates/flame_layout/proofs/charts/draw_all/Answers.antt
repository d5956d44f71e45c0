use Rattle.std.proofs.Common.{◌≡◌, ℕ, ◌+◌, ◌-◌, ◌<◌, ◌≤◌, ◌∷◌, [], ◌∙◌, sym, ap, arith, drop, length, subst, List}
use Rattle.std.proofs.lemmas.List.{drop_all, drop_more}
use Rattle.sample_tables.specs.declared.samples.Sample.{Sample}
use Rattle.sample_tables.specs.Rows.{sample_at}
use Rattle.stack_core.specs.Interleaving.{list_of}
use Rattle.flame_layout.specs.declared.chart_walks.ChartWalk.{ChartWalk}
use Rattle.merged_stacks.specs.Timeline.{total_weight}
use Rattle.flame_layout.specs.checked.ChartWalks.{IsChartWalk}
use Rattle.merged_stacks.proofs.Timelines.{no_sample, total_weight-drop, total_weight-drop_le}
use Rattle.flame_layout.proofs.charts.draw_all.Goals as goal

pub loop-at-init : goal.loop-at-init
loop-at-init g c =
    let samples = g.S.StackRows.samples c.args.list.now in
    let none : drop c.len-at.result samples ≡ [] = drop_all c.len-at.result samples (omega (arith, c.len-at.ensures.count)) in
    record {
      lists = c.in_ok-walk.ensures.lists;
      start = ap (λ xs. c.args.total + total_weight xs) none ∙ omega arith;
      walked = subst (λ (xs : List Sample). IsChartWalk c.args.total c.in_ok-walk.walk xs) (sym none) (c.in_ok-walk.ensures.walked c.args.total);
    }

pub enter-requires-clause-list : goal.enter-requires-clause-list
enter-requires-clause-list g c = omega (arith, ap length c.loop-at.invariant.lists)

pub enter-requires-clause-at : goal.enter-requires-clause-at
enter-requires-clause-at g c = omega (arith, c.len-at.ensures.count, c.loop-at.auto.at, c.loop-at-test.true, ap (λ (ls : List (List Sample)). length (list_of ls 0)) c.loop-at.invariant.lists)

pub enter-requires-clause-room : goal.enter-requires-clause-room
enter-requires-clause-room g c =
    let samples = g.S.StackRows.samples c.args.list.now in
    let i = c.loop-at.at - 1 in
    let more = total_weight-drop samples i c.loop-at.at no_sample (omega arith) (omega (arith, c.len-at.ensures.count)) in
    let same = ap (λ (ls : List (List Sample)). (sample_at (list_of ls 0) i).weight) c.loop-at.invariant.lists in
    omega (arith, same, more, c.loop-at.invariant.start, c.requires, total_weight-drop_le samples i)

pub overflow_sub-start : goal.overflow_sub-start
overflow_sub-start g c =
    let samples = g.S.StackRows.samples c.args.list.now in
    let more = total_weight-drop samples (c.loop-at.at - 1) c.loop-at.at no_sample (omega arith) (omega (arith, c.len-at.ensures.count)) in
    omega (arith, more, c.loop-at.invariant.start, c.requires, total_weight-drop_le samples (c.loop-at.at - 1), c.weight-start.ensures.value)

pub loop-at-preserved : goal.loop-at-preserved
loop-at-preserved g c =
    let samples = g.S.StackRows.samples c.args.list.now in
    let i = c.loop-at.at - 1 in
    let s = sample_at samples i in
    let within : i < length samples = omega (arith, c.len-at.ensures.count) in
    let next : c.loop-at.at ≡ i + 1 = omega arith in
    let more = total_weight-drop samples i c.loop-at.at no_sample next within in
    let weight : c.weight-start.result ≡ s.weight = c.weight-start.ensures.value in
    let room : s.weight ≤ c.loop-at.start = omega (arith, more, c.loop-at.invariant.start, c.requires, total_weight-drop_le samples i) in
    let first : drop i samples ≡ s ∷ drop c.loop-at.at samples = drop_more samples i no_sample within ∙ ap (λ n. s ∷ drop n samples) (sym next) in
    let same : sample_at (list_of c.loop-at.walk.chart.lists 0) i ≡ s = ap (λ (ls : List (List Sample)). sample_at (list_of ls 0) i) c.loop-at.invariant.lists in
    let before : c.loop-at.start - c.weight-start.result + (sample_at (list_of c.loop-at.walk.chart.lists 0) i).weight ≡ c.loop-at.start = omega (arith, weight, room, ap (λ (p : Sample). p.weight) same) in
    record {
      lists = c.in_ok-enter.ensures.lists ∙ c.loop-at.invariant.lists;
      start = omega (arith, more, weight, room, c.loop-at.invariant.start);
      walked = subst (λ (xs : List Sample). IsChartWalk (c.loop-at.start - c.weight-start.result) c.enter.new.walk xs) (sym first)
          (subst (λ (p : Sample). IsChartWalk (c.loop-at.start - c.weight-start.result) c.enter.new.walk (p ∷ drop c.loop-at.at samples)) same
          (c.in_ok-enter.ensures.walked (c.loop-at.start - c.weight-start.result) (drop c.loop-at.at samples) before c.loop-at.invariant.walked));
    }

-- at the end all is walked, from 0 on
walked_all : {S : Type 0} (samples : List Sample) (i start total : ℕ) (walk : ChartWalk S) → i ≤ 0 → total_weight samples ≡ total → start + total_weight (drop i samples) ≡ total
    → IsChartWalk start walk (drop i samples) → IsChartWalk 0 walk samples
walked_all samples i start total walk low sum is walked =
    let none : i ≡ 0 = omega arith in
    let at_start : start ≡ 0 = omega (arith, sum, is, ap (λ n. total_weight (drop n samples)) none) in
    subst (λ n. IsChartWalk n walk samples) at_start (subst (λ n. IsChartWalk start walk (drop n samples)) none walked)

pub end-requires : goal.end-requires
end-requires g c =
    let samples = g.S.StackRows.samples c.args.list.now in
    (samples, walked_all samples c.loop-at.at c.loop-at.start c.args.total c.loop-at.walk (omega arith) c.requires c.loop-at.invariant.start c.loop-at.invariant.walked)

pub returns : goal.returns
returns g c =
    let samples = g.S.StackRows.samples c.args.list.now in
    c.in_ok-runs.ensures samples (walked_all samples c.loop-at.at c.loop-at.start c.args.total c.loop-at.walk (omega arith) c.requires c.loop-at.invariant.start c.loop-at.invariant.walked)

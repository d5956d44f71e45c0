use Rattle.std.proofs.Common.{◌≡◌, ◌+◌, ◌-◌, ◌<◌, ◌≤◌, ◌++◌, ◌∷◌, ◌∙◌, sym, ap, arith, drop, length, subst, refl, [], List}
use Rattle.std.proofs.lemmas.List.{drop_all}
use Rattle.sample_tables.specs.declared.samples.Sample.{Sample}
use Rattle.sample_tables.specs.Rows.{sample_at}
use Rattle.stack_core.specs.Interleaving.{list_of}
use Rattle.merged_stacks.specs.Timeline.{drawn, total_weight}
use Rattle.merged_stacks.proofs.Timelines.{no_sample, total_weight-drop, total_weight-drop_le, drawn-drop_yes, drawn-drop_no}
use Rattle.flame_layout.specs.checked.ChartWalks.{IsChartWalk}
use Rattle.flame_layout.proofs.chart_walks.enter_samples.Goals as goal

pub loop-at-init : goal.loop-at-init
loop-at-init g c =
    let lists = c.args.walk.now.chart.lists in
    let samples = list_of lists c.args.list in
    let are = sym c.list-samples.ensures in
    let none : drop c.len-at.result samples ≡ [] = drop_all c.len-at.result samples (omega (arith, c.len-at.ensures.count, ap length are)) in
    record {
      lists = refl;
      start = ap (λ xs. c.args.end + total_weight xs) none ∙ omega arith;
      walked = λ rest w. subst (λ (xs : List Sample). IsChartWalk c.args.end c.args.walk.now (drawn xs ++ rest)) (sym none) w;
    }

pub enter-requires-clause-at : goal.enter-requires-clause-at
enter-requires-clause-at g c =
    let lists = c.args.walk.now.chart.lists in
    let are = sym c.list-samples.ensures in
    omega (arith, c.len-at.ensures.count, ap length are, ap (λ (ls : List (List Sample)). length (list_of ls c.args.list)) c.loop-at.invariant.lists, c.loop-at.auto.at, c.loop-at-test.true)

pub enter-requires-clause-room : goal.enter-requires-clause-room
enter-requires-clause-room g c =
    let lists = c.args.walk.now.chart.lists in
    let samples = list_of lists c.args.list in
    let are = sym c.list-samples.ensures in
    let more = total_weight-drop samples (c.loop-at.at - 1) c.loop-at.at no_sample (omega arith) (omega (arith, c.len-at.ensures.count, ap length are)) in
    let same = ap (λ (ls : List (List Sample)). (sample_at (list_of ls c.args.list) (c.loop-at.at - 1)).weight) c.loop-at.invariant.lists in
    omega (arith, same, more, c.loop-at.invariant.start, c.requires.room, total_weight-drop_le samples (c.loop-at.at - 1))

pub overflow_sub-start : goal.overflow_sub-start
overflow_sub-start g c =
    let lists = c.args.walk.now.chart.lists in
    let samples = list_of lists c.args.list in
    let are = sym c.list-samples.ensures in
    let more = total_weight-drop samples (c.loop-at.at - 1) c.loop-at.at no_sample (omega arith) (omega (arith, c.len-at.ensures.count, ap length are)) in
    let weight = ap (λ (xs : List Sample). (sample_at xs (c.loop-at.at - 1)).weight) are in
    omega (arith, weight, more, c.loop-at.invariant.start, c.requires.room, total_weight-drop_le samples (c.loop-at.at - 1), c.weight-weight.ensures.value)

pub loop-at-preserved-then-weight-gt0 : goal.loop-at-preserved-then-weight-gt0
loop-at-preserved-then-weight-gt0 g c =
    let lists = c.args.walk.now.chart.lists in
    let samples = list_of lists c.args.list in
    let i = c.loop-at.at - 1 in
    let s = sample_at samples i in
    let are = sym c.list-samples.ensures in
    let within : i < length samples = omega (arith, c.len-at.ensures.count, ap length are) in
    let next : c.loop-at.at ≡ i + 1 = omega arith in
    let more = total_weight-drop samples i c.loop-at.at no_sample next within in
    let weight : c.weight-weight.result ≡ s.weight = c.weight-weight.ensures.value ∙ ap (λ (xs : List Sample). (sample_at xs i).weight) (sym are) in
    let room : s.weight ≤ c.loop-at.start = omega (arith, more, c.loop-at.invariant.start, c.requires.room, total_weight-drop_le samples i) in
    let first : drawn (drop i samples) ≡ s ∷ drawn (drop c.loop-at.at samples) = drawn-drop_yes samples i c.loop-at.at no_sample next within (omega (arith, weight)) in
    let same : sample_at (list_of c.loop-at.walk.chart.lists c.args.list) i ≡ s = ap (λ (ls : List (List Sample)). sample_at (list_of ls c.args.list) i) c.loop-at.invariant.lists in
    let before : c.loop-at.start - c.weight-weight.result + (sample_at (list_of c.loop-at.walk.chart.lists c.args.list) i).weight ≡ c.loop-at.start = omega (arith, weight, room, ap (λ (p : Sample). p.weight) same) in
    record {
      lists = c.in_ok-enter.ensures.lists ∙ c.loop-at.invariant.lists;
      start = omega (arith, more, weight, room, c.loop-at.invariant.start);
      walked = λ rest w.
          subst (λ (xs : List Sample). IsChartWalk (c.loop-at.start - c.weight-weight.result) c.enter.new.walk (xs ++ rest)) (sym first)
          (subst (λ (p : Sample). IsChartWalk (c.loop-at.start - c.weight-weight.result) c.enter.new.walk (p ∷ (drawn (drop c.loop-at.at samples) ++ rest))) same
          (c.in_ok-enter.ensures.walked (c.loop-at.start - c.weight-weight.result) (drawn (drop c.loop-at.at samples) ++ rest) before (c.loop-at.invariant.walked rest w)));
    }

pub loop-at-preserved : goal.loop-at-preserved
loop-at-preserved g c =
    let lists = c.args.walk.now.chart.lists in
    let samples = list_of lists c.args.list in
    let i = c.loop-at.at - 1 in
    let are = sym c.list-samples.ensures in
    let within : i < length samples = omega (arith, c.len-at.ensures.count, ap length are) in
    let next : c.loop-at.at ≡ i + 1 = omega arith in
    let none : (sample_at samples i).weight ≡ 0 = omega (arith, c.if-weight-gt0.false, c.weight-weight.ensures.value, ap (λ (xs : List Sample). (sample_at xs i).weight) are) in
    record {
      lists = c.loop-at.invariant.lists;
      start = omega (arith, total_weight-drop samples i c.loop-at.at no_sample next within, none, c.loop-at.invariant.start);
      walked = λ rest w.
          subst (λ (xs : List Sample). IsChartWalk c.loop-at.start c.loop-at.walk (xs ++ rest)) (sym (drawn-drop_no samples i c.loop-at.at no_sample next within none)) (c.loop-at.invariant.walked rest w);
    }

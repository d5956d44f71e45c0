use Rattle.std.proofs.Common.{◌+◌, ◌≤◌, ◌++◌, ◌∙◌, sym, ap, arith, length, List, take, drop, reverse, subst, All}
use Rattle.std.proofs.lemmas.List.{length-take-le}
use Rattle.std.proofs.lemmas.Result.{on_ok_weaker}
use Rattle.flame_layout.specs.declared.chart_walks.OpenEnd.{OpenEnd}
use Rattle.flame_layout.specs.checked.Walk.{IsWalk, Run, boxes_of_runs}
use Rattle.flame_layout.specs.checked.ChartRuns.{RunsState, stack_at, stack_in}
use Rattle.flame_layout.specs.checked.ChartWalks.{named_runs, runs_in}
use Rattle.flame_layout.proofs.ChartFronts.{ends-begun, front-is, front-kept, front-runs}
use Rattle.flame_layout.proofs.NamedRuns.{named_runs-length, named_runs-kept}
use Rattle.flame_layout.proofs.chart_walks.close_front.Goals as goal

pub close_ends-requires-clause-few : goal.close_ends-requires-clause-few
close_ends-requires-clause-few g c =
    let walk = c.args.walk.now in
    omega (arith, c.requires.walked.2.walked.few, ap length (front-runs walk c.in-Some.front c.in-Some.is), named_runs-length (stack_at walk.chart.lists c.in-Some.front) walk.ends.items)

pub close_ends-requires-clause-begun : goal.close_ends-requires-clause-begun
close_ends-requires-clause-begun g c =
    let walk = c.args.walk.now in
    let front = c.in-Some.front in
    let is = front-is c.requires.walked.0 walk front c.requires.walked.1 c.in-Some.is c.requires.walked.2 in
    let walked = subst (λ (runs : List Run). IsWalk c.requires.walked.0 runs walk.chart.spans c.requires.walked.1) (front-runs walk front c.in-Some.is) c.requires.walked.2.walked in
    subst (λ n. All (λ (going : OpenEnd). n ≤ going.end) walk.ends.items) (sym is.begins) (ends-begun c.requires.walked.0 (stack_at walk.chart.lists front) walk.ends.items walk.chart.spans c.requires.walked.1 walked)

pub close_ends-requires-clause-kept : goal.close_ends-requires-clause-kept
close_ends-requires-clause-kept g c =
    let walk = c.args.walk.now in
    let is = front-is c.requires.walked.0 walk c.in-Some.front c.requires.walked.1 c.in-Some.is c.requires.walked.2 in
    omega (arith, c.shared_with-keep.ensures.wide, is.deep)

pub returns-clause-spans : goal.returns-clause-spans
returns-clause-spans g c =
    let walk = c.args.walk.now in
    let front = c.in-Some.front in
    on_ok_weaker c.close_ends.result (λ e start samples walked.
    let is = front-is start walk front samples c.in-Some.is walked in
    let kept = front-kept start walk front samples (stack_in walk.chart.lists c.args.list c.args.at) c.shared_with-keep.result c.in-Some.is walked c.shared_with-keep.ensures.is in
    ap (λ (s : RunsState). s.spans) e
    ∙ (λ i. walk.chart.spans ++ reverse (drop (kept i) (boxes_of_runs (is.begins i) (sym (front-runs walk front c.in-Some.is) i))))) c.close_ends.ensures.chart

pub returns-clause-count : goal.returns-clause-count
returns-clause-count g c =
    let walk = c.args.walk.now in
    let front = c.in-Some.front in
    let is = front-is c.requires.walked.0 walk front c.requires.walked.1 c.in-Some.is c.requires.walked.2 in
    let kept = front-kept c.requires.walked.0 walk front c.requires.walked.1 (stack_in walk.chart.lists c.args.list c.args.at) c.shared_with-keep.result c.in-Some.is c.requires.walked.2 c.shared_with-keep.ensures.is in
    let there : c.shared_with-keep.result + 1 ≤ length walk.ends.items = omega (arith, c.shared_with-keep.ensures.wide, is.deep) in
    on_ok_weaker c.close_ends.result (λ e. ap length e ∙ (length-take-le (c.shared_with-keep.result + 1) walk.ends.items there ∙ kept)) c.close_ends.ensures.ends

pub returns-clause-kept : goal.returns-clause-kept
returns-clause-kept g c =
    let walk = c.args.walk.now in
    let front = c.in-Some.front in
    let stack = stack_in walk.chart.lists c.args.list c.args.at in
    let keep = c.shared_with-keep.result + 1 in
    let is = front-is c.requires.walked.0 walk front c.requires.walked.1 c.in-Some.is c.requires.walked.2 in
    let kept = front-kept c.requires.walked.0 walk front c.requires.walked.1 stack c.shared_with-keep.result c.in-Some.is c.requires.walked.2 c.shared_with-keep.ensures.is in
    let there : keep ≤ length walk.ends.items = omega (arith, c.shared_with-keep.ensures.wide, is.deep) in
    on_ok_weaker c.close_ends.result (λ e. ap (named_runs stack) e
    ∙ (named_runs-kept stack (stack_at walk.chart.lists front) walk.ends.items keep (omega (arith, c.shared_with-keep.ensures.is)) there
    ∙ (ap (take keep) (sym (front-runs walk front c.in-Some.is)) ∙ ap (λ n. take n (runs_in walk)) kept))) c.close_ends.ensures.ends

use Rattle.std.proofs.Common.{◌≡◌, ◌<◌, ◌≤◌, ◌+◌, ◌-◌, List, ◌∙◌, sym, ap, length, drop, reverse, get_or, ◌++◌, ◌∷◌, [], arith, refl, subst}
use Rattle.std.proofs.lemmas.List.{take_all, drop_all, append-nil, length_push, append_assoc}
use Rattle.sample_tables.specs.declared.samples.Sample.{Sample}
use Rattle.flame_layout.specs.declared.chart_walks.OpenEnd.{OpenEnd}
use Rattle.flame_layout.specs.checked.Walk.{Run, box_of_run, boxes_of_runs}
use Rattle.flame_layout.specs.checked.ChartRuns.{IsThere, RunsState, span_from, stack_at}
use Rattle.flame_layout.specs.checked.ChartWalks.{named_run, named_runs}
use Rattle.flame_layout.proofs.NamedRuns.{no_end, named_runs-at, named_runs-length}
use Rattle.flame_layout.proofs.WalkSteps.{popped_left, popped_run, boxes_more, boxes_of_runs-length}
use Rattle.flame_layout.proofs.chart_walks.close_ends.Goals as goal

pub each-init : goal.each-init
each-init g c =
    let ends = c.args.ends.now.items in
    let runs = named_runs (stack_at c.args.chart.now.lists c.args.front.now) ends in
    let boxes = boxes_of_runs c.args.front.now.start runs in
    let none : drop (length ends) boxes ≡ [] = drop_all (length ends) boxes (omega (arith, boxes_of_runs-length c.args.front.now.start runs, named_runs-length (stack_at c.args.chart.now.lists c.args.front.now) ends)) in
    record {
      few = omega arith;
      kept = c.requires.kept;
      ends = sym (take_all (length ends) ends (omega arith));
      lists = refl;
      boxes = sym (append-nil _) ∙ ap (λ xs. c.args.chart.now.spans ++ reverse xs) (sym none);
    }

pub push-requires-clause-there : goal.push-requires-clause-there
push-requires-clause-there g c = subst (λ (lists : List (List Sample)). IsThere lists c.args.front.now) (sym c.each.invariant.lists) c.requires.there

pub push-requires-clause-deep : goal.push-requires-clause-deep
push-requires-clause-deep g c =
    let same : length (stack_at c.each.chart.lists c.args.front.now) ≡ length (stack_at c.args.chart.now.lists c.args.front.now) = ap (λ (lists : List (List Sample)). length (stack_at lists c.args.front.now)) c.each.invariant.lists in
    let longer : length c.each.ends.items ≡ length c.pop.new.self.items + 1 = ap length c.in-Some.ensures.items ∙ length_push c.pop.new.self.items c.in-Some.going in
    omega (arith, same, longer, c.len-depth.ensures, c.pop.new.self.ok.0, c.each.invariant.few, c.requires.deep)

pub overflow_sub-going : goal.overflow_sub-going
overflow_sub-going g c =
    let all = c.args.ends.now.items in
    let new = c.pop.new.self.items in
    let going = c.in-Some.going in
    let longer : length c.each.ends.items ≡ length new + 1 = ap length c.in-Some.ensures.items ∙ length_push new going in
    let is : get_or all (length new) no_end ≡ going = popped_run all c.each.ends.items new going no_end c.each.invariant.ends c.in-Some.ensures.items in
    subst (λ (ending : OpenEnd). c.args.front.now.start ≤ ending.end) is (c.requires.begun (length new) no_end (omega (arith, longer, c.each.invariant.few)))

pub each-preserved : goal.each-preserved
each-preserved g c =
    let lists = c.args.chart.now.lists in
    let stack = stack_at lists c.args.front.now in
    let start = c.args.front.now.start in
    let all = c.args.ends.now.items in
    let now = c.each.ends.items in
    let new = c.pop.new.self.items in
    let going = c.in-Some.going in
    let n = length c.pop.new.self.items in
    let runs = named_runs stack all in
    let run = named_run stack (n, going) in
    let longer : length now ≡ length new + 1 = ap length c.in-Some.ensures.items ∙ length_push new going in
    let within : n < length all = omega (arith, longer, c.each.invariant.few) in
    let is : get_or all n no_end ≡ going = popped_run all now new going no_end c.each.invariant.ends c.in-Some.ensures.items in
    let read : (d : Run) → get_or runs n d ≡ run = λ d. named_runs-at stack all n no_end d within ∙ ap (λ o. named_run stack (n, o)) is in
    let more = boxes_more start runs n (length now) run longer (omega (arith, within, named_runs-length stack all)) read in
    let same = ap (λ (s : RunsState). s.lists) c.in_ok-push.ensures in
    let depth : c.len-depth.result ≡ n = omega (arith, c.len-depth.ensures, c.pop.new.self.ok.0) in
    let span : span_from c.each.chart.lists c.args.front.now c.len-depth.result (going.end - start) going.own ≡ box_of_run start (n, run) =
    ap (λ (ls : List (List Sample)). span_from ls c.args.front.now c.len-depth.result (going.end - start) going.own) c.each.invariant.lists ∙ ap (λ k. span_from lists c.args.front.now k (going.end - start) going.own) depth in
    record {
      few = omega (arith, longer, c.each.invariant.few);
      kept = omega (arith, longer, c.each-test.true, c.len.ensures, c.each.ends.ok.0);
      ends = popped_left all now new going c.each.invariant.ends c.in-Some.ensures.items;
      lists = same ∙ c.each.invariant.lists;
      boxes = ap (λ (s : RunsState). s.spans) c.in_ok-push.ensures ∙ ((λ i. c.each.invariant.boxes i ++ span i ∷ []) ∙ (append_assoc c.args.chart.now.spans (reverse (drop (length now) (boxes_of_runs start runs))) (box_of_run start (n, run) ∷ []) ∙ ap (λ bs. c.args.chart.now.spans ++ bs) (sym more)));
    }

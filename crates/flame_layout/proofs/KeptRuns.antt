-- runs by the places where they begin
use Rattle.std.proofs.Common.{◌≡◌, ◌<◌, ◌≤◌, ◌++◌, List, length, map, get_or, All, sym, ◌∙◌, ap, subst, arith}
use Rattle.std.proofs.lemmas.List.{same_lists, get_or-map, get_or_append_left, length-map, length-append}
use Rattle.sample_tables.specs.declared.samples.Sample.{Sample}
use Rattle.flame_layout.specs.declared.boxes.SpanBox.{SpanBox}
use Rattle.flame_layout.specs.declared.chart_runs.ChartRun.{ChartRun}
use Rattle.flame_layout.specs.declared.chart_runs.RunStart.{RunStart}
use Rattle.flame_layout.specs.checked.ChartRuns.{IsRun, IsThere, no_start, span_from, span_of_run, stack_at, start_of}

start_stays : (starts more : List RunStart) (run : ChartRun) → run.first < length starts → start_of (starts ++ more) run ≡ start_of starts run
start_stays starts more run h = get_or_append_left starts more no_start run.first h

-- further places change nothing
run_stays : (lists : List (List Sample)) (starts more : List RunStart) (run : ChartRun) → IsRun lists starts run → IsRun lists (starts ++ more) run
run_stays lists starts more run h =
    let same = start_stays starts more run h.first in
    record {
      first = omega (arith, h.first, length-append starts more);
      there = subst (IsThere lists) (sym same) h.there;
      deep = subst (λ start. run.depth ≤ length (stack_at lists start)) (sym same) h.deep;
    }

pub runs_stay : (lists : List (List Sample)) (starts more : List RunStart) (runs : List ChartRun) → All (IsRun lists starts) runs → All (IsRun lists (starts ++ more)) runs
runs_stay lists starts more runs h k d l = run_stays lists starts more (get_or runs k d) (h k d l)

pub spans_stay : (lists : List (List Sample)) (starts more : List RunStart) (runs : List ChartRun) → All (IsRun lists starts) runs →
    map (span_of_run lists (starts ++ more)) runs ≡ map (span_of_run lists starts) runs
spans_stay lists starts more runs h = same_lists _ _ (length-map runs (span_of_run lists (starts ++ more)) ∙ sym (length-map runs (span_of_run lists starts))) each
  where
    each : (k : _) (d : SpanBox) → k < length (map (span_of_run lists (starts ++ more)) runs) → get_or (map (span_of_run lists (starts ++ more)) runs) k d ≡ get_or (map (span_of_run lists starts) runs) k d
    each k d l =
        let some : ChartRun = record { first = 0; depth = 0; weight = 0; own = 0 } in
        let within : k < length runs = omega (arith, l, length-map runs (span_of_run lists (starts ++ more))) in
        let run = get_or runs k some in
        get_or-map (span_of_run lists (starts ++ more)) runs k some d within
        ∙ ap (λ start. span_from lists start run.depth run.weight run.own) (start_stays starts more run (h k some within).first)
        ∙ sym (get_or-map (span_of_run lists starts) runs k some d within)

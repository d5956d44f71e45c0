use Rattle.std.proofs.Common.{◌≡◌, ◌≤◌, ◌++◌, ◌∷◌, [], All, length, map, sym, ◌∙◌, ap, subst}
use Rattle.std.proofs.lemmas.List.{map_push}
use Rattle.std.proofs.lemmas.List.Elements.{All-same, All-push}
use Rattle.flame_layout.specs.declared.chart_runs.ChartRun.{ChartRun}
use Rattle.flame_layout.specs.checked.ChartRuns.{IsRun, IsThere, RunsState, samples_in, span_from, span_of_run, stack_at}
use Rattle.flame_layout.proofs.KeptRuns.{runs_stay, spans_stay}
use Rattle.flame_layout.proofs.chart_runs.ChartRuns.push.Goals as goal

pub invariant_of-self : goal.invariant_of-self
invariant_of-self g c = subst (λ s. All (IsRun (samples_in g.S.StackRows.samples c.self.inside.lists.items) s) c.self.inside.runs.items) (sym c.number_of.ensures.more.1) (runs_stay (samples_in g.S.StackRows.samples c.self.inside.lists.items) c.self.inside.starts.items c.number_of.ensures.more.0 c.self.inside.runs.items c.self.invariant)

pub invariant_of-self-in_err-push : goal.invariant_of-self-in_err-push
invariant_of-self-in_err-push g c =
    All-same (IsRun (samples_in g.S.StackRows.samples c.self.inside.lists.items) c.number_of.new.starts.items) c.push.new.self.items c.self.inside.runs.items c.in_err-push.ensures.items
    (subst (λ s. All (IsRun (samples_in g.S.StackRows.samples c.self.inside.lists.items) s) c.self.inside.runs.items) (sym c.number_of.ensures.more.1) (runs_stay (samples_in g.S.StackRows.samples c.self.inside.lists.items) c.self.inside.starts.items c.number_of.ensures.more.0 c.self.inside.runs.items c.self.invariant))

pub invariant_of-self-2 : goal.invariant_of-self-2
invariant_of-self-2 g c =
    let lists = samples_in g.S.StackRows.samples c.self.inside.lists.items in
    let starts = c.number_of.new.starts.items in
    let more = c.number_of.ensures.more in
    let run : ChartRun = record { first = c.in_ok-first.first; depth = c.args.depth; weight = c.args.weight; own = c.args.own } in
    let same = ap (λ (s : RunsState). s.lists) c.self.view_is in
    let within : c.args.depth ≤ length (stack_at c.args.self.now.lists c.args.first.now) = c.requires.deep in
    let old : All (IsRun lists starts) c.self.inside.runs.items =
    subst (λ s. All (IsRun lists s) c.self.inside.runs.items) (sym more.1) (runs_stay lists c.self.inside.starts.items more.0 c.self.inside.runs.items c.self.invariant) in
    let new : IsRun lists starts run = record {
      first = c.in_ok-first.ensures.there;
      there = subst (IsThere lists) (sym c.in_ok-first.ensures.is) (subst (λ ls. IsThere ls c.args.first.now) (sym same) c.requires.there);
      deep = subst (λ s. c.args.depth ≤ length (stack_at lists s)) (sym c.in_ok-first.ensures.is) (subst (λ ls. c.args.depth ≤ length (stack_at ls c.args.first.now)) (sym same) within);
    } in
    All-same (IsRun lists starts) c.push.new.self.items (c.self.inside.runs.items ++ run ∷ []) c.in_ok-push.ensures.items (All-push (IsRun lists starts) c.self.inside.runs.items run old new)

pub returns : goal.returns
returns g c =
    let lists = samples_in g.S.StackRows.samples c.self.inside.lists.items in
    let starts = c.number_of.new.starts.items in
    let more = c.number_of.ensures.more in
    let run : ChartRun = record { first = c.in_ok-first.first; depth = c.args.depth; weight = c.args.weight; own = c.args.own } in
    let same = ap (λ (s : RunsState). s.lists) c.self.view_is in
    let spans = ap (λ (s : RunsState). s.spans) c.self.view_is in
    let old : map (span_of_run lists starts) c.self.inside.runs.items ≡ c.args.self.now.spans =
    ap (λ s. map (span_of_run lists s) c.self.inside.runs.items) more.1 ∙ (spans_stay lists c.self.inside.starts.items more.0 c.self.inside.runs.items c.self.invariant ∙ spans) in
    let new : span_of_run lists starts run ≡ span_from c.args.self.now.lists c.args.first.now c.args.depth c.args.weight c.args.own =
    ap (λ s. span_from lists s c.args.depth c.args.weight c.args.own) c.in_ok-first.ensures.is ∙ ap (λ ls. span_from ls c.args.first.now c.args.depth c.args.weight c.args.own) same in
    let all : map (span_of_run lists starts) c.push.new.self.items ≡ c.args.self.now.spans ++ span_from c.args.self.now.lists c.args.first.now c.args.depth c.args.weight c.args.own ∷ [] =
    ap (map (span_of_run lists starts)) c.in_ok-push.ensures.items ∙ (map_push (span_of_run lists starts) c.self.inside.runs.items run ∙ (λ i. old i ++ new i ∷ [])) in
    λ i. record { lists = same i; spans = all i }

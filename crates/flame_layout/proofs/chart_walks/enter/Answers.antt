use Rattle.std.proofs.Common.{◌≡◌, ℕ, ◌+◌, ◌-◌, ◌++◌, ◌∙◌, List, sym, ap, arith, length, map, get_or, set, refl, subst}
use Rattle.std.specs.List.{range_with_len}
use Rattle.sample_tables.specs.Rows.{sample_at}
use Rattle.stack_core.specs.Interleaving.{list_of}
use Rattle.sample_tables.specs.declared.samples.Sample.{Sample}
use Rattle.flame_layout.specs.declared.chart_runs.RunStart.{RunStart}
use Rattle.flame_layout.specs.checked.Walk.{new_run}
use Rattle.flame_layout.specs.checked.ChartRuns.{IsThere, stack_at}
use Rattle.flame_layout.specs.checked.ChartWalks.{named_runs}
use Rattle.flame_layout.proofs.ChartFronts.{chart-entered, entry-length, entry-room}
use Rattle.flame_layout.proofs.chart_walks.enter.Goals as goal

-- the samples of the list that is read
samples_are : {lists mid : List (List Sample)} (list : ℕ) {samples : List Sample} → mid ≡ lists → samples ≡ list_of mid list → list_of lists list ≡ samples
samples_are list same is = ap (λ (ls : List (List Sample)). list_of ls list) (sym same) ∙ sym is

pub close_front-requires-clause-walked : goal.close_front-requires-clause-walked
close_front-requires-clause-walked g c = (c.args.start, c.requires.walked.0, c.requires.walked.1)

pub depth-depth-requires : goal.depth-depth-requires
depth-depth-requires g c = omega (arith, c.requires.at, ap length (samples_are c.args.list c.in_ok-close_front.ensures.lists c.list-samples.ensures))

pub weight-weight-requires : goal.weight-weight-requires
weight-weight-requires g c = omega (arith, c.requires.at, ap length (samples_are c.args.list c.in_ok-close_front.ensures.lists c.list-samples.ensures))

pub open_ends-requires : goal.open_ends-requires
open_ends-requires g c =
    omega (arith, c.in_ok-close_front.ensures.deep, c.depth-depth.ensures.value, ap (λ xs. length (sample_at xs c.args.at).stack) (samples_are c.args.list c.in_ok-close_front.ensures.lists c.list-samples.ensures))

pub index_mut-last-requires : goal.index_mut-last-requires
index_mut-last-requires g c =
    let walk = c.args.walk.now in
    let p = sample_at (list_of walk.chart.lists c.args.list) c.args.at in
    let mid = c.close_front.new.walk.ends.items in
    let samples = samples_are c.args.list c.in_ok-close_front.ensures.lists c.list-samples.ensures in
    let deep : c.depth-depth.result ≡ length p.stack = c.depth-depth.ensures.value ∙ ap (λ xs. length (sample_at xs c.args.at).stack) (sym samples) in
    let is = c.in_ok-open_ends.ensures p.stack ∙ ap (λ n. named_runs p.stack mid ++ map (new_run p.stack c.args.start) (range_with_len (length mid) (n + 1 - length mid))) deep in
    let long = entry-length c.args.start walk c.requires.walked.0 p mid c.open_ends.new.ends.items c.requires.walked.1 c.in_ok-close_front.ensures.count c.in_ok-close_front.ensures.kept is in
    omega (arith, long, deep, c.open_ends.new.ends.ok.0)

pub with_weight-last-requires-clause-room : goal.with_weight-last-requires-clause-room
with_weight-last-requires-clause-room g c =
    let walk = c.args.walk.now in
    let p = sample_at (list_of walk.chart.lists c.args.list) c.args.at in
    let mid = c.close_front.new.walk.ends.items in
    let last = c.index_mut-last.result.now in
    let samples = samples_are c.args.list c.in_ok-close_front.ensures.lists c.list-samples.ensures in
    let deep : c.depth-depth.result ≡ length p.stack = c.depth-depth.ensures.value ∙ ap (λ xs. length (sample_at xs c.args.at).stack) (sym samples) in
    let weight : c.weight-weight.result ≡ p.weight = c.weight-weight.ensures.value ∙ ap (λ xs. (sample_at xs c.args.at).weight) (sym samples) in
    let is = c.in_ok-open_ends.ensures p.stack ∙ ap (λ n. named_runs p.stack mid ++ map (new_run p.stack c.args.start) (range_with_len (length mid) (n + 1 - length mid))) deep in
    let read : get_or c.open_ends.new.ends.items (length p.stack) last ≡ last = ap (λ n. get_or c.open_ends.new.ends.items n last) (sym deep) ∙ sym c.index_mut-last.ensures.value in
    entry-room c.args.start walk c.requires.walked.0 p mid c.open_ends.new.ends.items last c.requires.walked.1 c.in_ok-close_front.ensures.count c.in_ok-close_front.ensures.kept is read

pub with_weight-last-requires-clause-before : goal.with_weight-last-requires-clause-before
with_weight-last-requires-clause-before g c = omega (arith, c.requires.room, c.weight-weight.ensures.value, ap (λ xs. (sample_at xs c.args.at).weight) (samples_are c.args.list c.in_ok-close_front.ensures.lists c.list-samples.ensures))

pub overflow_sub-start : goal.overflow_sub-start
overflow_sub-start g c = omega (arith, c.requires.room, c.weight-weight.ensures.value, ap (λ xs. (sample_at xs c.args.at).weight) (samples_are c.args.list c.in_ok-close_front.ensures.lists c.list-samples.ensures))

pub returns-clause-walked : goal.returns-clause-walked
returns-clause-walked g c before rest e w =
    let walk = c.args.walk.now in
    let p = sample_at (list_of walk.chart.lists c.args.list) c.args.at in
    let mid = c.close_front.new.walk.ends.items in
    let more = c.open_ends.new.ends.items in
    let last = c.index_mut-last.result.now in
    let samples = samples_are c.args.list c.in_ok-close_front.ensures.lists c.list-samples.ensures in
    let deep : c.depth-depth.result ≡ length p.stack = c.depth-depth.ensures.value ∙ ap (λ xs. length (sample_at xs c.args.at).stack) (sym samples) in
    let weight : c.weight-weight.result ≡ p.weight = c.weight-weight.ensures.value ∙ ap (λ xs. (sample_at xs c.args.at).weight) (sym samples) in
    let is = c.in_ok-open_ends.ensures p.stack ∙ ap (λ n. named_runs p.stack mid ++ map (new_run p.stack c.args.start) (range_with_len (length mid) (n + 1 - length mid))) deep in
    let read : get_or more (length p.stack) last ≡ last = ap (λ n. get_or more n last) (sym deep) ∙ sym c.index_mut-last.ensures.value in
    let front : RunStart = record { list = c.args.list; at = c.args.at; start = c.args.start - c.weight-weight.result } in
    let here : IsThere walk.chart.lists front = record { list = c.requires.list; at = c.requires.at } in
    let own : c.with_weight-last.result ≡ last.own + p.weight = c.with_weight-last.ensures ∙ ap (λ n. last.own + n) weight in
    let set_is : set more c.depth-depth.result (record { end = last.end; own = c.with_weight-last.result }) ≡ set more (length p.stack) (record { end = last.end; own = last.own + p.weight }) =
    λ i. set more (deep i) (record { end = last.end; own = own i }) in
    chart-entered c.args.start before walk _ rest p mid more last front (omega (arith, deep, c.depth-depth.ensures.limit)) e w c.in_ok-close_front.ensures.count c.in_ok-close_front.ensures.kept is read
    (c.in_ok-close_front.ensures.spans c.args.start _ c.requires.walked.1) set_is refl (subst (λ ls. IsThere ls front) (sym c.in_ok-close_front.ensures.lists) here) (ap (λ (ls : List (List Sample)). stack_at ls front) c.in_ok-close_front.ensures.lists) (omega (arith, e, weight))

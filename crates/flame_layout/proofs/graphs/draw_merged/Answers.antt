use Rattle.std.proofs.Common.{◌≡◌, ◌∙◌, ◌+◌, ◌<◌, ◌≤◌, ◌∷◌, [], List, All, length, ap, subst, sym, refl, arith}
use Rattle.std.proofs.lemmas.List.Elements.{recursion_from_All}
use Rattle.sample_tables.specs.declared.samples.Sample.{Sample}
use Rattle.stack_core.specs.Interleaving.{list_of}
use Rattle.flame_layout.specs.declared.boxes.SpanBox.{SpanBox}
use Rattle.merged_stacks.specs.RankedStacks.{ranked_samples}
use Rattle.merged_stacks.specs.Timeline.{total_weight}
use Rattle.flame_layout.proofs.GraphBoxes.{graph-positive}
use Rattle.flame_layout.proofs.Geometry.{chart-within}
use Rattle.merged_stacks.proofs.MergedRows.{as_true}
use Rattle.flame_layout.proofs.MergedSums.{walked_stacks, chart_is_graph}
use Rattle.flame_layout.proofs.graphs.draw_merged.Goals as goal

-- the stacks are those of the walk's one list
list_is : (lists : List (List Sample)) (stacks : List Sample) → lists ≡ stacks ∷ [] → list_of lists 0 ≡ stacks
list_is lists stacks e = ap (λ (ls : List (List Sample)). list_of ls 0) e

pub enter_samples-requires-clause-list : goal.enter_samples-requires-clause-list
enter_samples-requires-clause-list c = omega (arith, ap length c.in_ok-walk.ensures.lists)

pub enter_samples-requires-clause-room : goal.enter_samples-requires-clause-room
enter_samples-requires-clause-room c =
    let stacks = ranked_samples c.args.merged.now in
    omega (arith, (sym c.total-total.ensures), ap total_weight (list_is c.in_ok-walk.walk.chart.lists stacks c.in_ok-walk.ensures.lists))

pub enter_samples-requires-clause-walked : goal.enter_samples-requires-clause-walked
enter_samples-requires-clause-walked c = ([], c.in_ok-walk.ensures.walked c.total-total.result)

pub end-requires : goal.end-requires
end-requires c =
    let stacks = ranked_samples c.args.merged.now in (
      stacks,
      walked_stacks stacks _ c.in_ok-enter_samples.field-0 c.total-total.result c.enter_samples.new.walk (list_is c.in_ok-walk.walk.chart.lists stacks c.in_ok-walk.ensures.lists)
          c.len-count.ensures.positive c.total-total.ensures c.in_ok-enter_samples.ensures.start (c.in_ok-enter_samples.ensures.walked [] (c.in_ok-walk.ensures.walked c.total-total.result)),
    )

pub returns-clause-graph : goal.returns-clause-graph
returns-clause-graph c samples same =
    let stacks = ranked_samples c.args.merged.now in
    let is = c.in_ok-runs.ensures stacks (walked_stacks stacks _ c.in_ok-enter_samples.field-0 c.total-total.result c.enter_samples.new.walk (list_is c.in_ok-walk.walk.chart.lists stacks c.in_ok-walk.ensures.lists)
    c.len-count.ensures.positive c.total-total.ensures c.in_ok-enter_samples.ensures.start (c.in_ok-enter_samples.ensures.walked [] (c.in_ok-walk.ensures.walked c.total-total.result))) in
    is ∙ chart_is_graph stacks samples (as_true _ c.len-count.ensures.in_order) (recursion_from_All (λ (sample : Sample). 0 < sample.weight) stacks c.len-count.ensures.positive) same

pub returns-clause-within : goal.returns-clause-within
returns-clause-within c =
    let stacks = ranked_samples c.args.merged.now in
    let is = c.in_ok-runs.ensures stacks (walked_stacks stacks _ c.in_ok-enter_samples.field-0 c.total-total.result c.enter_samples.new.walk (list_is c.in_ok-walk.walk.chart.lists stacks c.in_ok-walk.ensures.lists)
    c.len-count.ensures.positive c.total-total.ensures c.in_ok-enter_samples.ensures.start (c.in_ok-enter_samples.ensures.walked [] (c.in_ok-walk.ensures.walked c.total-total.result))) in
    subst (λ (boxes : List SpanBox). All (λ span. span.start + span.weight ≤ total_weight stacks) boxes) (sym is) (chart-within stacks)

pub returns-clause-positive : goal.returns-clause-positive
returns-clause-positive c some =
    let stacks = ranked_samples c.args.merged.now in
    let is = c.in_ok-runs.ensures stacks (walked_stacks stacks _ c.in_ok-enter_samples.field-0 c.total-total.result c.enter_samples.new.walk (list_is c.in_ok-walk.walk.chart.lists stacks c.in_ok-walk.ensures.lists)
    c.len-count.ensures.positive c.total-total.ensures c.in_ok-enter_samples.ensures.start (c.in_ok-enter_samples.ensures.walked [] (c.in_ok-walk.ensures.walked c.total-total.result))) in
    let graph = is ∙ chart_is_graph stacks stacks (as_true _ c.len-count.ensures.in_order) (recursion_from_All (λ (sample : Sample). 0 < sample.weight) stacks c.len-count.ensures.positive) (λ path. refl) in
    graph-positive stacks (omega (arith, some, ap length graph))

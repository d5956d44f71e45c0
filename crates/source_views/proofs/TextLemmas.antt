-- What the boxes of a text lie in, and what lists and merged stacks weigh.
use Rattle.std.proofs.Common.{◌≡◌, ◌+◌, ◌<◌, ◌≤◌, ℕ, List, [], get_or, true, length, All, sym, ap, subst, ◌∙◌, arith}
use Rattle.std.proofs.lemmas.List.{get_or-map}
use Rattle.sample_tables.specs.declared.samples.Sample.{Sample}
use Rattle.merged_stacks.specs.Timeline.{samples_of, total_weight, timeline}
use Rattle.flame_layout.specs.Chart.{chart_of}
use Rattle.flame_layout.specs.Graph.{graph_of}
use Rattle.flame_layout.specs.Paths.{SameOwn}
use Rattle.flame_layout.specs.declared.boxes.SpanBox.{SpanBox}
use Rattle.flame_layout.proofs.Geometry.{chart-within}
use Rattle.flame_layout.proofs.Timelines.{timeline-chart_positive}
use Rattle.flame_layout.proofs.Sums.{same_sums, same_tested}
use Rattle.flame_layout.proofs.GraphBoxes.{graph-within, graph-positive}
use Rattle.stack_core.specs.Interleaving.{list_of}
use Rattle.stack_core.specs.Ledgers.{ListState}
use Rattle.merging.proofs.GatherLemmas.{timeline_weight}
use Rattle.merging.specs.Sums.{all_samples}

-- samples of the same own sums have the same weight
pub same_weight : (samples others : List Sample) → SameOwn samples others → total_weight samples ≡ total_weight others
same_weight samples others same = same_tested (λ _. true) (length samples) samples others (omega arith) (same_sums samples others same)

-- the samples of a list that is lent
pub listed_samples : (lists lent : List ListState) (i : ℕ) (d : ListState) → lent ≡ lists → i < length lists → (get_or lent i d).samples ≡ list_of (samples_of lists) i
listed_samples lists lent i d lends within =
    ap (λ (ls : List ListState). (get_or ls i d).samples) lends ∙ sym (get_or-map (λ (list : ListState). list.samples) lists i d [] within)

-- the boxes of a graph lie within the total
pub graph_within : (samples : List Sample) (boxes : List SpanBox) (total : ℕ) → boxes ≡ graph_of samples → total ≡ total_weight samples
    → All (λ span. span.start + span.weight ≤ total) boxes
graph_within samples boxes total drawn weighed =
    subst (λ (bs : List SpanBox). All (λ span. span.start + span.weight ≤ total) bs) (sym drawn)
    (subst (λ n. All (λ span. span.start + span.weight ≤ n) (graph_of samples)) (sym weighed) (graph-within samples))

pub graph_positive : (samples : List Sample) (boxes : List SpanBox) (total : ℕ) → boxes ≡ graph_of samples → total ≡ total_weight samples
    → 0 < length boxes → 0 < total
graph_positive samples boxes total drawn weighed some =
    subst (λ n. 0 < n) (sym weighed) (graph-positive samples (subst (λ (bs : List SpanBox). 0 < length bs) drawn some))

pub chart_within : (lists : List (List Sample)) (boxes : List SpanBox) (total : ℕ) → boxes ≡ chart_of (timeline lists) → total ≡ total_weight (all_samples lists)
    → All (λ span. span.start + span.weight ≤ total) boxes
chart_within lists boxes total is weighed =
    subst (λ (bs : List SpanBox). All (λ span. span.start + span.weight ≤ total) bs) (sym is)
    (subst (λ n. All (λ span. span.start + span.weight ≤ n) (chart_of (timeline lists))) (timeline_weight lists ∙ sym weighed) (chart-within (timeline lists)))

pub chart_positive : (lists : List (List Sample)) (boxes : List SpanBox) (total : ℕ) → boxes ≡ chart_of (timeline lists) → total ≡ total_weight (all_samples lists)
    → 0 < length boxes → 0 < total
chart_positive lists boxes total is weighed some =
    subst (λ n. 0 < n) (timeline_weight lists ∙ sym weighed) (timeline-chart_positive lists (subst (λ (bs : List SpanBox). 0 < length bs) is some))

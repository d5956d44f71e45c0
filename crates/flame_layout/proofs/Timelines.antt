-- a timeline without weight has no boxes
use Rattle.std.proofs.Common.{◌<◌, List, length, ap, arith, ⊎_elim}
use Rattle.std.proofs.lemmas.Bool.{cases_lt}
use Rattle.sample_tables.specs.declared.samples.Sample.{Sample}
use Rattle.merged_stacks.specs.Timeline.{total_weight, timeline}
use Rattle.flame_layout.specs.Chart.{chart_of}
use Rattle.merged_stacks.proofs.Timelines.{timeline-nil}

pub timeline-chart_positive : (sources : List (List Sample)) → 0 < length (chart_of (timeline sources)) → 0 < total_weight (timeline sources)
timeline-chart_positive sources h = ⊎_elim (λ l. l) (λ le. absurd (omega (arith, h, ap (λ xs. length (chart_of xs)) (timeline-nil sources (omega (arith, le)))))) (cases_lt 0 (total_weight (timeline sources)))

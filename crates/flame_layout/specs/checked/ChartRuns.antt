-- The boxes of a chart by the samples at which they begin, as they are kept.
use Rattle.std.specs.Prelude.{ℕ, ◌<◌, ◌≤◌, List, length, map, slice_index_or}
use denote.Ref.{Bor}
use Rattle.sample_tables.specs.Rows.{sample_at}
use Rattle.stack_core.specs.Interleaving.{list_of}
use Rattle.sample_tables.specs.declared.samples.Sample.{Sample}
use Rattle.merged_stacks.specs.Timeline.{Stack}
use Rattle.flame_layout.specs.declared.boxes.SpanBox.{SpanBox}
use Rattle.flame_layout.specs.declared.chart_runs.ChartRun.{ChartRun}
use Rattle.flame_layout.specs.declared.chart_runs.RunStart.{RunStart}
use Rattle.flame_layout.specs.Chart.{box_name}

-- the samples of lists that are lent
abbrev pub samples_in : {L : Type 0} → (L → List Sample) → List (Bor L) → List (List Sample)
samples_in samples lists = map (λ list. samples list.now) lists

-- the lists, and the boxes, the last first
pub record RunsState : Type 0 where
  pub lists : List (List Sample)
  pub spans : List SpanBox

-- the stack of a sample of a list
abbrev pub stack_in : List (List Sample) → ℕ → ℕ → Stack
stack_in lists list at = (sample_at (list_of lists list) at).stack

-- the stack of the sample at which runs begin
abbrev pub stack_at : List (List Sample) → RunStart → Stack
stack_at lists start = stack_in lists start.list start.at

-- there is such a sample
pub record IsThere (lists : List (List Sample)) (start : RunStart) : Type 0 where
  pub list : start.list < length lists
  pub at : start.at < length (list_of lists start.list)

-- the box of a depth that begins there
abbrev pub span_from : List (List Sample) → RunStart → ℕ → ℕ → ℕ → SpanBox
span_from lists start depth weight own = record {
  depth = depth;
  name = box_name depth (stack_at lists start);
  start = start.start;
  weight = weight;
  own = own;
}

-- what stands for a place that there is not
abbrev pub no_start : RunStart
no_start = record { list = 0; at = 0; start = 0 }

abbrev pub start_of : List RunStart → ChartRun → RunStart
start_of starts run = slice_index_or starts run.first no_start

abbrev pub span_of_run : List (List Sample) → List RunStart → ChartRun → SpanBox
span_of_run lists starts run = span_from lists (start_of starts run) run.depth run.weight run.own

-- a run begins at a sample that has a frame of that depth
pub record IsRun (lists : List (List Sample)) (starts : List RunStart) (run : ChartRun) : Type 0 where
  pub first : run.first < length starts
  pub there : IsThere lists (start_of starts run)
  pub deep : run.depth ≤ length (stack_at lists (start_of starts run))

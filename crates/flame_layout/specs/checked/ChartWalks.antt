-- The walk that keeps of each run only where it ends, since its name is that of the sample at the front.
use Rattle.std.specs.Prelude.{◌≡◌, ◌≤◌, ℕ, ◌+◌, List, [], Option, None, Some, IfSome, length, map}
use Rattle.std.specs.Option.{IfNone}
use Rattle.std.specs.List.{enumerate_from}
use Rattle.sample_tables.specs.declared.samples.Sample.{Sample}
use Rattle.sample_tables.specs.declared.samples.TheConstants.{FRAME_LIMIT}
use Rattle.merged_stacks.specs.Timeline.{Stack}
use Rattle.flame_layout.specs.declared.chart_runs.RunStart.{RunStart}
use Rattle.flame_layout.specs.declared.chart_walks.ChartWalk.{ChartWalk}
use Rattle.flame_layout.specs.declared.chart_walks.OpenEnd.{OpenEnd}
use Rattle.flame_layout.specs.Chart.{box_name, names_shared}
use Rattle.flame_layout.specs.checked.ChartRuns.{IsThere, stack_at}
use Rattle.flame_layout.specs.checked.Walk.{IsWalk, Run}

-- two stacks begin alike with so many names
pub record BeginAlike (one other : Stack) (count : ℕ) : Type 0 where
  pub is : count ≡ names_shared one other
  pub deep : count ≤ length one
  pub wide : count ≤ length other
  pub small : count ≤ FRAME_LIMIT

-- the run of a depth of a stack, by where it ends
abbrev pub named_run : Stack → ℕ × OpenEnd → Run
named_run stack (depth, going) = record { name = box_name depth stack; end = going.end; own = going.own }

-- the runs of a stack, one for each depth
abbrev pub named_runs : Stack → List OpenEnd → List Run
named_runs stack ends = map (named_run stack) (enumerate_from 0 ends)

abbrev pub runs_under : List (List Sample) → Option RunStart → List OpenEnd → List Run
runs_under lists None ends = []
runs_under lists (Some front) ends = named_runs (stack_at lists front) ends

-- the runs that go on at the front of what was walked
abbrev pub runs_in : {S : Type 0} → ChartWalk S → List Run
runs_in walk = runs_under walk.chart.lists walk.front walk.ends.items

-- the sample at the front begins there, and has a run for each of its depths
pub record IsFrontOf (lists : List (List Sample)) (start : ℕ) (ends : List OpenEnd) (front : RunStart) : Type 0 where
  pub there : IsThere lists front
  pub begins : front.start ≡ start
  pub deep : length ends ≡ length (stack_at lists front) + 1

-- the state of the walk once these samples were walked
pub record IsChartWalk {S : Type 0} (start : ℕ) (walk : ChartWalk S) (samples : List Sample) : Type 0 where
  pub front : IfSome walk.front (IsFrontOf walk.chart.lists start walk.ends.items)
  pub none : IfNone walk.front (walk.ends.items ≡ [])
  pub walked : IsWalk start (runs_in walk) walk.chart.spans samples

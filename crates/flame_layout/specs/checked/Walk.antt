-- The walk over the samples from the last to the first, as the code that draws a chart makes it.
use Rattle.std.specs.Prelude.{ℕ, ◌+◌, ◌-◌, ◌≡◌, ◌≤◌, List, [], ◌∷◌, map, length, reverse, drop, Some}
use Rattle.std.specs.List.{range_with_len, enumerate_from}
use Rattle.sample_tables.specs.declared.samples.Sample.{Sample}
use Rattle.flame_layout.specs.declared.boxes.SpanBox.{SpanBox}
use Rattle.merged_stacks.specs.Timeline.{Stack, total_weight}
use Rattle.flame_layout.specs.Chart.{names_shared, box_name, run_at, own_weight, boxes_after}

-- a run that goes on at the front of what was walked: its name, where it ends, and its own weight
pub record Run : Type 0 where
  pub name : List ℕ
  pub end : ℕ
  pub own : ℕ

-- the run at a depth, of samples that begin at a start
abbrev pub run_of : Stack → ℕ → List Sample → ℕ → Run
run_of stack start samples depth = record {
  name = box_name depth stack;
  end = start + total_weight (run_at depth stack samples);
  own = own_weight depth (run_at depth stack samples);
}

-- the runs at the front of the samples, one for each depth of the first stack
abbrev pub runs_at_front : ℕ → List Sample → List Run
runs_at_front start [] = []
runs_at_front start (sample ∷ rest) = map (run_of sample.stack start (sample ∷ rest)) (range_with_len 0 (length sample.stack + 1))

-- the boxes of the runs that don't begin at the front
abbrev pub boxes_behind : ℕ → List Sample → List SpanBox
boxes_behind start [] = []
boxes_behind start (sample ∷ rest) = boxes_after (Some sample.stack) (start + sample.weight) rest

-- the box of a run that begins at a start
abbrev pub box_of_run : ℕ → ℕ × Run → SpanBox
box_of_run start (depth, run) = record {
  depth = depth;
  name = run.name;
  start = start;
  weight = run.end - start;
  own = run.own;
}

abbrev pub boxes_of_runs : ℕ → List Run → List SpanBox
boxes_of_runs start runs = map (box_of_run start) (enumerate_from 0 runs)

-- a run that has only begun, of samples that end at a place
abbrev pub new_run : Stack → ℕ → ℕ → Run
new_run stack end depth = record { name = box_name depth stack; end = end; own = 0 }

-- the names of the runs below the root: the stack at the front
abbrev pub names_of : List Run → Stack
names_of runs = map (λ run. run.name) (drop 1 runs)

-- the state of the walk once these samples were walked, whose first has a stack within the limit
pub record IsWalk (start : ℕ) (runs : List Run) (boxes : List SpanBox) (samples : List Sample) : Type 0 where
  pub going : runs ≡ runs_at_front start samples
  pub closed : boxes ≡ reverse (boxes_behind start samples)
  pub few : length runs ≤ 4097

-- how many of the runs go on under a sample with the stack
abbrev pub shared_runs_of : Stack → List Run → ℕ
shared_runs_of stack [] = 0
shared_runs_of stack (run ∷ runs) = names_shared stack (names_of (run ∷ runs)) + 1

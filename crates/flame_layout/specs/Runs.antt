-- Longest runs of neighbouring samples, and what the laws of charts say of their boxes.
use Rattle.std.specs.Prelude.{◌≡◌, ◌<◌, ◌≤◌, ◌+◌, ◌⊎◌, ℕ, List, [], ◌∷◌, ◌++◌, Option, None, Some, length, map, take, ⊤}
use Rattle.std.specs.List.{last_or, AllByRecursion}
use Rattle.sample_tables.specs.declared.samples.Sample.{Sample}
use Rattle.flame_layout.specs.declared.boxes.SpanBox.{SpanBox}
use Rattle.merged_stacks.specs.Timeline.{Stack, total_weight}
use Rattle.flame_layout.specs.Chart.{names_shared, own_weight, box_name}

abbrev pub stacks_of : List Sample → List Stack
stacks_of samples = map (λ sample. sample.stack) samples

-- the stack of the last sample, and of the first, if there is one
abbrev pub last_stack : List Sample → Option Stack
last_stack samples = last_or None (stacks_of samples)

abbrev pub first_stack : List Sample → Option Stack
first_stack [] = None
first_stack (sample ∷ rest) = Some sample.stack

-- there is no such stack, or it does not begin with the first `depth` names
abbrev pub IsApart : ℕ → Stack → Option Stack → Type 0
IsApart depth stack None = ⊤
IsApart depth stack (Some other) = names_shared other stack < depth

-- in a timeline of `before`, then `first` and `more`, then `after`: `first` and `more` are a longest unbroken run of
-- samples that all have at least `depth` frames and the same first `depth` names
pub record IsLongestRun (depth : ℕ) (before : List Sample) (first : Sample) (more after : List Sample) : Type 0 where
  pub deep : depth ≤ length first.stack
  pub alike : AllByRecursion (λ sample. depth ≤ names_shared sample.stack first.stack) more
  pub begins : IsApart depth first.stack (last_stack before)
  pub ends : IsApart depth first.stack (first_stack after)

-- the box that a run stands for
abbrev pub run_box : ℕ → List Sample → Sample → List Sample → SpanBox
run_box depth before first more = record {
  depth = depth;
  name = box_name depth first.stack;
  start = total_weight before;
  weight = total_weight (first ∷ more);
  own = own_weight depth (first ∷ more);
}

-- a box is that of a longest run of the timeline
pub record IsOfRun (samples : List Sample) (box : SpanBox) : Type 0 where
  pub depth : ℕ
  pub before : List Sample
  pub first : Sample
  pub more : List Sample
  pub after : List Sample
  pub parts : samples ≡ before ++ (first ∷ more ++ after)
  pub longest : IsLongestRun depth before first more after
  pub is : box ≡ run_box depth before first more

-- a box with its path: the first names of a longest run that it stands for, as many as the box is deep, the last one its name
pub record HasPath (samples : List Sample) (box : SpanBox) (path : Stack) : Type 0 where
  pub run : IsOfRun samples box
  pub names : path ≡ take run.depth run.first.stack
  pub depth : box.depth ≡ length path
  pub name : box.name ≡ box_name (length path) path

-- listed by start, then depth
abbrev pub StandsBefore : SpanBox → SpanBox → Type 0
StandsBefore one other = (one.start < other.start) ⊎ ((one.start ≡ other.start) × (one.depth < other.depth))

abbrev pub IsListed : List SpanBox → Type 0
IsListed [] = ⊤
IsListed (span ∷ rest) = AllByRecursion (StandsBefore span) rest × IsListed rest

-- inside a run of one depth more: the run of `depth` whose first names are its own without the last
pub record LiesInside (samples : List Sample) (depth : ℕ) (before : List Sample) (first : Sample) (more : List Sample) : Type 0 where
  pub outer_before : List Sample
  pub outer_first : Sample
  pub outer_more : List Sample
  pub outer_after : List Sample
  pub parts : samples ≡ outer_before ++ (outer_first ∷ outer_more ++ outer_after)
  pub longest : IsLongestRun depth outer_before outer_first outer_more outer_after
  pub path : take depth outer_first.stack ≡ take depth first.stack
  pub starts : (run_box depth outer_before outer_first outer_more).start ≤ (run_box (depth + 1) before first more).start
  pub ends : (run_box (depth + 1) before first more).start + (run_box (depth + 1) before first more).weight
      ≤ (run_box depth outer_before outer_first outer_more).start + (run_box depth outer_before outer_first outer_more).weight

-- no two boxes of one depth overlap: one that is listed later starts where the earlier one ends, or after
abbrev pub DontOverlap : List SpanBox → Type 0
DontOverlap [] = ⊤
DontOverlap (span ∷ rest) = AllByRecursion (λ other. span.depth ≡ other.depth → span.start + span.weight ≤ other.start) rest × DontOverlap rest

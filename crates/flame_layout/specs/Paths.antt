-- The paths of a chart's boxes, and the sums of the weights at a path.
use Rattle.std.specs.Prelude.{◌≡◌, ⊤, ℕ, ◌+◌, ◌-◌, List, [], ◌∷◌, ◌++◌, Option, None, Some, length, map, take}
use Rattle.std.specs.List.{range_with_len, AllByRecursion}
use Rattle.std.specs.declared.cmp.Ordering.TheVariants.{Less}
use Rattle.std.specs.Str.{bytes_eq}
use Rattle.std.specs.FinMap.{entries}
use Rattle.call_tree.specs.CallTree.{Tree}
use Rattle.call_tree.specs.Listing.{named}
use Rattle.call_tree.specs.PathSums.{total_of, own_of}
use Rattle.sample_tables.specs.declared.samples.Sample.{Sample}
use Rattle.flame_layout.specs.declared.boxes.SpanBox.{SpanBox}
use Rattle.merged_stacks.specs.Timeline.{Stack}
use Rattle.merged_stacks.specs.Order.{stack_cmp}
use Rattle.merged_stacks.specs.Merged.{weighed}
use Rattle.flame_layout.specs.Chart.{first_new, box_name}

-- the sum of the weights of the samples whose stack begins with the path, and of those whose stack is the path
abbrev pub total_at : Stack → List Sample → ℕ
total_at path samples = total_of bytes_eq (weighed samples) path

abbrev pub own_at : Stack → List Sample → ℕ
own_at path samples = own_of bytes_eq (weighed samples) path

-- the paths of the chart's boxes, in their order
abbrev pub paths_from : ℕ → Stack → List Stack
paths_from first stack = map (λ depth. take depth stack) (range_with_len first (length stack + 1 - first))

abbrev pub paths_after : Option Stack → List Sample → List Stack
paths_after before [] = []
paths_after before (sample ∷ rest) = paths_from (first_new before sample.stack) sample.stack ++ paths_after (Some sample.stack) rest

abbrev pub paths_of : List Sample → List Stack
paths_of samples = paths_after None samples

-- a path with its own weight and its total
pub record Visit : Type 0 where
  pub path : Stack
  pub own : ℕ
  pub total : ℕ

abbrev pub visit_at : List Sample → Stack → Visit
visit_at samples path = record { path = path; own = own_at path samples; total = total_at path samples }

-- a box for each visit, its start the sum of the own weights of the visits before it
abbrev pub boxes_of_visits : ℕ → List Visit → List SpanBox
boxes_of_visits start [] = []
boxes_of_visits start (visit ∷ rest) =
    record {
      depth = length visit.path;
      name = box_name (length visit.path) visit.path;
      start = start;
      weight = visit.total;
      own = visit.own;
    } ∷ boxes_of_visits (start + visit.own) rest

-- the lists have the same own sums
abbrev pub SameOwn : List Sample → List Sample → Type 0
SameOwn one other = (path : Stack) → own_at path one ≡ own_at path other

-- each path is below those after it
abbrev pub IsRising : List Stack → Type 0
IsRising [] = ⊤
IsRising (path ∷ rest) = AllByRecursion (λ later. stack_cmp path later ≡ Less) rest × IsRising rest

-- the tree's entries as samples, each with the names of its path
abbrev pub tree_samples : List (List ℕ) → Tree → List Sample
tree_samples names tree = map (λ entry. record { stack = named names entry.0; weight = entry.1 }) (entries tree)

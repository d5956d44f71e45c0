-- The line of the samples that came so far.
use Rattle.std.specs.Prelude.{ℕ, List, [], ◌%◌, nat_eq, if◌then◌else◌}
use Rattle.flame_layout.specs.Graph.{graph_of}
use Rattle.merged_stacks.specs.Fronts.{GrowingState, fronts}
use Rattle.merged_stacks.specs.Merged.{all_samples}
use Rattle.merged_stacks.specs.Timeline.{total_weight}
use Rattle.view_texts.specs.Json.{snapshot_line}

abbrev pub moment_line : ℕ → ℕ → GrowingState → List ℕ
moment_line width at growing =
    let came = all_samples (fronts growing.lists growing.counts) in
    snapshot_line at growing.counts (total_weight came) width (graph_of came)

-- the same where a snapshot is due after so many samples, and else nothing
abbrev pub due_line : ℕ → ℕ → ℕ → GrowingState → List ℕ
due_line width every at growing = if nat_eq (at % every) 0 then moment_line width at growing else []

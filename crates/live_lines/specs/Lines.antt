-- The lines of what came so far, of pairs of a source and a sample in the order in which they came, or pages or frames of a table in their place.
use Rattle.std.specs.Prelude.{ℕ, List, ◌++◌, Some, length, map}
use Rattle.std.specs.List.{flat_map, range_with_len}
use Rattle.sample_tables.specs.declared.samples.Sample.{Sample}
use Rattle.stack_core.specs.Interleaving.{counts_at, sources_of}
use Rattle.merged_stacks.specs.Timeline.{total_weight}
use Rattle.flame_layout.specs.Graph.{graph_of}
use Rattle.view_texts.specs.Json.{snapshot_line}
use Rattle.merging.specs.Snapshots.{first_samples, samples_of_pairs, snapshot_places}
use Rattle.source_views.specs.Texts.{graph_line}
use Rattle.live_lines.specs.Frames.{frame_at, last_table}
use Rattle.live_lines.specs.Pages.{last_page, page_at}
use Rattle.live_lines.specs.declared.form.LiveForm.{LiveForm}
use Rattle.live_lines.specs.declared.form.LiveForm.TheVariants.{Lines, Pages, Table}
use Rattle.live_lines.specs.declared.merge.LiveLine.{LiveLine}
use Rattle.live_lines.specs.declared.merge.LiveLine.TheVariants.{Graph, Snapshot}

-- how many of the first m pairs each source of a run has: an entry for each source
abbrev pub live_counts : ℕ → List (ℕ × Sample) → ℕ → List ℕ
live_counts sources pairs m = map (counts_at m (sources_of pairs)) (range_with_len 0 sources)

-- the flame graph of the first m pairs
abbrev pub live_line_at : ℕ → ℕ → List (ℕ × Sample) → ℕ → List ℕ
live_line_at sources width pairs m =
    let samples = first_samples pairs m in
    snapshot_line m (live_counts sources pairs m) (total_weight samples) width (graph_of samples)

-- what is written of the first m pairs
abbrev pub moment_at : LiveForm → ℕ → ℕ → List (ℕ × Sample) → ℕ → List ℕ
moment_at Lines sources width pairs m = live_line_at sources width pairs m
moment_at Pages sources width pairs m = page_at pairs m
moment_at (Table every) sources width pairs m = frame_at every sources pairs m

-- and at the end of all
abbrev pub end_of : LiveForm → ℕ → List (ℕ × Sample) → List ℕ
end_of Lines width pairs = graph_line width (samples_of_pairs pairs)
end_of Pages width pairs = last_page pairs
end_of (Table every) width pairs = last_table every pairs

-- what is written for every so many pairs
abbrev pub live_lines : LiveForm → ℕ → ℕ → ℕ → List (ℕ × Sample) → List ℕ
live_lines form sources width every pairs =
    flat_map (moment_at form sources width pairs) (snapshot_places (Some every) (length pairs))

-- that, and then what is written of all pairs
abbrev pub live_text : LiveForm → ℕ → ℕ → ℕ → List (ℕ × Sample) → List ℕ
live_text form sources width every pairs = live_lines form sources width every pairs ++ end_of form width pairs

-- what is written of all pairs, as of a moment or as of the end
abbrev pub line_now : LiveForm → LiveLine → ℕ → ℕ → List (ℕ × Sample) → List ℕ
line_now form Snapshot sources width pairs = moment_at form sources width pairs (length pairs)
line_now form Graph sources width pairs = end_of form width pairs

-- What is kept beside the merged samples.
use Rattle.std.specs.Prelude.{◌≡◌, ℕ, Bool, true, false, List, codes, length}
use Rattle.sample_tables.specs.declared.samples.Sample.{Sample}
use Rattle.flame_layout.specs.declared.boxes.SpanBox.{SpanBox}
use Rattle.view_texts.specs.Json.{boxes_line, snapshot_line}
use Rattle.live_lines.specs.Lines.{live_counts}
use Rattle.live_lines.specs.declared.merge.LiveLine.{LiveLine}
use Rattle.live_lines.specs.declared.merge.LiveLine.TheVariants.{Graph, Snapshot}

-- how many there are, and of which sources
pub record IsLiveMerge (pairs : List (ℕ × Sample)) (counts : List ℕ) (at : ℕ) : Type 0 where
  pub counted : counts ≡ live_counts (length counts) pairs (length pairs)
  pub at_is : at ≡ length pairs

-- more is to come behind it
abbrev pub has_more : LiveLine → Bool
has_more Snapshot = true
has_more Graph = false

-- the line of boxes
abbrev pub shown_text : LiveLine → ℕ → List ℕ → ℕ → ℕ → List SpanBox → List ℕ
shown_text Snapshot at counts total width spans = snapshot_line at counts total width spans
shown_text Graph at counts total width spans = boxes_line (codes "graph") total width spans

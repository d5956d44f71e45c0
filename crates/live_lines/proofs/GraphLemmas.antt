-- The lines of samples in the order in which they came are those of the graph of their lists.
use Rattle.std.proofs.Common.{◌≡◌, ◌∙◌, ◌++◌, ℕ, List, ap, length, map, sum_by, cond, sym}
use Rattle.std.specs.Prelude.{Some, codes}
use Rattle.std.specs.Cmp.Lexicographic.{pointwise}
use Rattle.std.specs.List.{flat_map, range_with_len}
use Rattle.std.specs.Str.{bytes_eq}
use Rattle.sample_tables.specs.declared.samples.Sample.{Sample}
use Rattle.stack_core.specs.Interleaving.{IsInterleaving, counts_at, interleaved, sources_of}
use Rattle.stack_core.proofs.InterleavingLemmas.{IsInterleaving-AreOf, sources_of-interleaved}
use Rattle.flame_layout.specs.Graph.{graph_of}
use Rattle.flame_layout.specs.Paths.{SameOwn}
use Rattle.flame_layout.proofs.PathWords.{own_at-is}
use Rattle.flame_layout.proofs.Sums.{same_graph, same_sums}
use Rattle.source_lists.proofs.OrderLemmas.{length-interleaved}
use Rattle.merging.specs.Snapshots.{first_samples, samples_of_pairs, snapshot_places, snapshot_samples}
use Rattle.merging.specs.Sums.{all_samples}
use Rattle.merging.proofs.PairSums.{sum_by-first, sum_by-of_lists}
use Rattle.view_texts.specs.Json.{boxes_line, snapshot_line}
use Rattle.source_views.specs.Texts.{all_counts, graph_text, snapshot_line_at, snapshot_lines}
use Rattle.live_lines.specs.Lines.{live_counts, live_line_at, live_lines, live_text}
use Rattle.live_lines.specs.declared.form.LiveForm.TheVariants.{Lines}

-- ---- samples with the same sums

own_same : (one other : List Sample) → ((f : Sample → ℕ) → sum_by f one ≡ sum_by f other) → SameOwn one other
own_same one other same path =
    own_at-is path one ∙ (same (λ sample. cond (pointwise bytes_eq path sample.stack) sample.weight 0) ∙ sym (own_at-is path other))

graph_same : (one other : List Sample) → ((f : Sample → ℕ) → sum_by f one ≡ sum_by f other) → graph_of one ≡ graph_of other
graph_same one other same = same_graph one other (same_sums one other (own_same one other same))

-- ---- a moment

line_is_snapshot : (sources width : ℕ) (lists : List (List Sample)) (order : List ℕ) → IsInterleaving order lists → length lists ≡ sources → (m : ℕ)
    → live_line_at sources width (interleaved order lists) m ≡ snapshot_line_at width order lists m
line_is_snapshot sources width lists order ordered count m =
    λ i. snapshot_line m (counts i) (same (λ sample. sample.weight) i) width (graph_same (first_samples (interleaved order lists) m) (snapshot_samples m order lists) same i)
  where
    order_is : sources_of (interleaved order lists) ≡ order
    order_is = sources_of-interleaved order lists ordered

    same : (f : Sample → ℕ) → sum_by f (first_samples (interleaved order lists) m) ≡ sum_by f (snapshot_samples m order lists)
    same f =
        sum_by-first f (interleaved order lists) lists (IsInterleaving-AreOf order lists ordered) m
        ∙ ap (λ o. sum_by f (snapshot_samples m o lists)) order_is

    counts : live_counts sources (interleaved order lists) m ≡ all_counts m order lists
    counts = λ i. map (counts_at m (order_is i)) (range_with_len 0 (sym count i))

-- ---- all moments, and the end

pub lines_are_snapshots : (sources width every : ℕ) (lists : List (List Sample)) (order : List ℕ) → IsInterleaving order lists → length lists ≡ sources
    → live_lines Lines sources width every (interleaved order lists) ≡ snapshot_lines width lists order (snapshot_places (Some every) (length order))
lines_are_snapshots sources width every lists order ordered count =
    λ i. flat_map (λ m. line_is_snapshot sources width lists order ordered count m i) (snapshot_places (Some every) (length-interleaved lists order ordered i))

pub text_is_graph_text : (sources width every : ℕ) (lists : List (List Sample)) (order : List ℕ) → IsInterleaving order lists → length lists ≡ sources
    → live_text Lines sources width every (interleaved order lists) ≡ graph_text width lists order (Some every)
text_is_graph_text sources width every lists order ordered count =
    λ i. lines_are_snapshots sources width every lists order ordered count i
    ++ boxes_line (codes "graph") (same (λ sample. sample.weight) i) width (graph_same (samples_of_pairs (interleaved order lists)) (all_samples lists) same i)
  where
    same : (f : Sample → ℕ) → sum_by f (samples_of_pairs (interleaved order lists)) ≡ sum_by f (all_samples lists)
    same f = sum_by-of_lists f (interleaved order lists) lists (IsInterleaving-AreOf order lists ordered)

-- What is kept beside merged samples.
use Rattle.std.proofs.Common.{◌≡◌, ◌∙◌, ◌+◌, ◌<◌, ◌≤◌, ◌++◌, ◌∷◌, [], ℕ, List, ap, arith, codes, get_or, length, refl, set, subst, sym, take, inl, inr}
use Rattle.std.proofs.lemmas.Bool.{cases_lt}
use Rattle.std.proofs.lemmas.List.{ext_get_or, get_or_past, length-map, length-set, length_push, map_push, take_all, get_or-set_other}
use Rattle.std.proofs.lemmas.List.FromFn.{get_or-map-range_with_len, length-map-range_with_len}
use Rattle.sample_tables.specs.declared.samples.Sample.{Sample}
use Rattle.stack_core.specs.Interleaving.{count_of, counts_at, sources_of}
use Rattle.source_lists.proofs.OrderLemmas.{count_at_most, count_of-push, counted_more}
use Rattle.merging.specs.Snapshots.{samples_of_pairs}
use Rattle.flame_layout.specs.Paths.{SameOwn}
use Rattle.flame_layout.proofs.MergedSums.{merged_own}
use Rattle.merged_stacks.specs.Merged.{merged_samples}
use Rattle.merged_stacks.specs.Timeline.{total_weight}
use Rattle.flame_layout.specs.Graph.{graph_of}
use Rattle.flame_layout.specs.declared.boxes.SpanBox.{SpanBox}
use Rattle.view_texts.specs.Json.{boxes_line, snapshot_line}
use Rattle.live_lines.specs.declared.form.LiveForm.TheVariants.{Lines}
use Rattle.live_lines.specs.declared.merge.LiveLine.{LiveLine}
use Rattle.live_lines.specs.declared.merge.LiveLine.TheVariants.{Graph, Snapshot}
use Rattle.live_lines.specs.Lines.{line_now, live_counts}
use Rattle.live_lines.specs.checked.Merges.{IsLiveMerge, shown_text}

-- all that came, by source
count_at_end : (pairs : List (ℕ × Sample)) (source : ℕ) → counts_at (length pairs) (sources_of pairs) source ≡ count_of source (sources_of pairs)
count_at_end pairs source = ap (count_of source) (take_all (length pairs) (sources_of pairs) (omega (arith, length-map pairs (λ pair. pair.0))))

pub count_here : (pairs : List (ℕ × Sample)) (counts : List ℕ) (at source : ℕ) → IsLiveMerge pairs counts at → source < length counts → get_or counts source 0 ≡ count_of source (sources_of pairs)
count_here pairs counts at source h within =
    ap (λ (all : List ℕ). get_or all source 0) h.counted
    ∙ get_or-map-range_with_len (counts_at (length pairs) (sources_of pairs)) 0 (length counts) source source 0 within (omega arith)
    ∙ count_at_end pairs source

-- no count is above that of all
pub count_few : (pairs : List (ℕ × Sample)) (counts : List ℕ) (at source : ℕ) → IsLiveMerge pairs counts at → get_or counts source 0 ≤ at
count_few pairs counts at source h = elim (cases_lt source (length counts)) [
  | inl within ↦
      omega (
        arith,
        count_here pairs counts at source h within,
        count_at_end pairs source,
        h.at_is,
        count_at_most (sources_of pairs) (length pairs) source (omega (arith, length-map pairs (λ pair. pair.0))),
      )
  | inr past ↦ omega (arith, get_or_past counts source 0 past)
]

pub merge_starts : (counts : List ℕ) → ((k : ℕ) → get_or counts k 0 ≡ 0) → IsLiveMerge [] counts 0
merge_starts counts none = record {
  counted =
      ext_get_or 0 counts (live_counts (length counts) [] 0) (sym (length-map-range_with_len (counts_at 0 []) 0 (length counts))) (λ i within.
      none i ∙ sym (get_or-map-range_with_len (counts_at 0 []) 0 (length counts) i i 0 within (omega arith)));
  at_is = refl;
}

-- one sample more
counted_push : (pairs : List (ℕ × Sample)) (source : ℕ) (sample : Sample) (counts : List ℕ) (at i : ℕ) → IsLiveMerge pairs counts at → i < length counts
    → get_or (set counts source (get_or counts source 0 + 1)) i 0 ≡ count_of i (sources_of pairs ++ source ∷ [])
counted_push pairs source sample counts at i h within = elim (cases_lt source (length counts)) [
  | inl below ↦
      let here = count_here pairs counts at source h below in
      counted_more (sources_of pairs) counts source (get_or counts source 0 + 1) below here (ap (λ n. n + 1) here) i (count_here pairs counts at i h within)
  | inr past ↦
      let apart : source ≡ i → ⊥ = λ e. omega (arith, e, past, within) in
      get_or-set_other counts source i (get_or counts source 0 + 1) 0 (λ e. apart (sym e))
      ∙ (count_here pairs counts at i h within ∙ sym ((count_of-push (sources_of pairs) source i).1 apart))
]

pub merge_push : (pairs : List (ℕ × Sample)) (source : ℕ) (sample : Sample) (counts new : List ℕ) (at next : ℕ) → IsLiveMerge pairs counts at → new ≡ set counts source (get_or counts source 0 + 1)
    → next ≡ at + 1 → IsLiveMerge (pairs ++ (source, sample) ∷ []) new next
merge_push pairs source sample counts new at next h more n = record {
  counted =
      ext_get_or 0 new (live_counts (length new) all (length all)) (sym (length-map-range_with_len (counts_at (length all) (sources_of all)) 0 (length new))) (λ i within.
      ap (λ (cs : List ℕ). get_or cs i 0) more
      ∙ counted_push pairs source sample counts at i h (omega (arith, within, long))
      ∙ ap (count_of i) (sym (map_push (λ pair. pair.0) pairs (source, sample)))
      ∙ sym (count_at_end all i)
      ∙ sym (get_or-map-range_with_len (counts_at (length all) (sources_of all)) 0 (length new) i i 0 within (omega arith)));
  at_is = omega (arith, n, h.at_is, length_push pairs (source, sample));
}
  where
    all : List (ℕ × Sample)
    all = pairs ++ (source, sample) ∷ []

    long : length new ≡ length counts
    long = ap length more ∙ length-set counts source (get_or counts source 0 + 1)

-- ---- what is drawn of it

pub same_merged : (samples merged : List Sample) → merged ≡ merged_samples samples → SameOwn samples merged
same_merged samples merged is = subst (SameOwn samples) (sym is) (merged_own samples)

-- the line of all that was taken
pub shown_now : (line : LiveLine) (pairs : List (ℕ × Sample)) (counts : List ℕ) (at width weight : ℕ) (boxes : List SpanBox) → IsLiveMerge pairs counts at → weight ≡ total_weight (samples_of_pairs pairs) → boxes ≡ graph_of (samples_of_pairs pairs)
    → shown_text line at counts weight width boxes ≡ line_now Lines line (length counts) width pairs
shown_now Graph pairs counts at width weight boxes h weighs drawn = λ i. boxes_line (codes "graph") (weighs i) width (drawn i)
shown_now Snapshot pairs counts at width weight boxes h weighs drawn =
    (λ i. snapshot_line (h.at_is i) (h.counted i) (weighs i) width (drawn i))
    ∙ (λ i. snapshot_line (length pairs) (live_counts (length counts) pairs (length pairs)) (total_weight (samples_of_pairs (sym whole i))) width (graph_of (samples_of_pairs (sym whole i))))
  where
    whole : take (length pairs) pairs ≡ pairs
    whole = take_all (length pairs) pairs (omega arith)

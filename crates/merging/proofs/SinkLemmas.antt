-- What follows of rows that were merged.
use Rattle.std.proofs.Common.{◌≡◌, ◌<◌, ◌≤◌, ◌+◌, ◌*◌, ◌-◌, ◌^◌, ℕ, zero, suc, List, [], ◌∷◌, ◌++◌, length, get_or, take, map, sym, ap, ◌∙◌, subst, arith, refl, Option, Some, None}
use Rattle.std.specs.Prelude.{IfSome}
use Rattle.std.specs.List.{AllByRecursion, range_with_len}
use Rattle.std.specs.FinMap as tree_map
use Rattle.std.specs.Option.{option_to_list}
use Rattle.std.proofs.lemmas.List.{map-id, take-map, length-map, map_push}
use Rattle.std.proofs.lemmas.List.Elements.{All-map}
use Rattle.std.proofs.lemmas.List.Sums.{sum_by-cons}
use Rattle.std.proofs.lemmas.Simd.{map-map}
use Rattle.std.proofs.Math.Nat.{zero-div}
use Rattle.sample_tables.specs.declared.samples.Sample.{Sample}
use Rattle.stack_core.specs.Interleaving.{sources_of}
use Rattle.call_tree.specs.CallTree.{Tree, tree_of, with_weight, total_weight}
use Rattle.call_tree.specs.FrameTable.{HasDistinctNames}
use Rattle.call_tree.specs.Listing.{named, AreIn}
use Rattle.merged_stacks.specs.checked.Ranks.{Grows}
use Rattle.flame_layout.specs.checked.Held.{Holds}
use Rattle.merged_stacks.specs.Timeline.{total_weight as weight_sum}
use Rattle.flame_layout.proofs.Held.{known-grows, named-grows, each-push, holds-small}
use Rattle.merging.specs.declared.snapshots.Snapshot.{Snapshot}
use Rattle.merging.specs.Sums.{HasSumsOf}
use Rattle.merging.specs.Snapshots.{snapshot_places, snapshot_counts, samples_of_pairs, first_samples, IsSnapshot, AreSnapshots}
use Rattle.ring_collect.specs.NamesInOrder.{GrowsTo}
use Rattle.merging.specs.declared.taken_rows.TakenRows.{TakenRows}
use Rattle.merging.specs.declared.tally.Tally.{Tally}
use Rattle.merging.specs.checked.TakenRows.{TakenRow, rows_of, pair_of, pairs_of, order_of, paths_of}
use Rattle.merging.specs.checked.Tallies.{IsTally}
use Rattle.merging.specs.checked.Merging.{IsNumbered, AreMerged, Grown, IsTreeSink, IsRowFor, snapshot_of, snapshots_of, due_after}
use Rattle.merging.proofs.SumLemmas.{sums-held}
use Rattle.merging.proofs.SnapshotLemmas.{tree_of-push, snapshots_of-push}

-- ---- the tree of rows holds their samples

paths_known : (names : List (List ℕ)) (rows : List TakenRow) → AllByRecursion (IsNumbered names) rows → AllByRecursion (λ path. AreIn names path.0) (paths_of rows)
paths_known names [] h = tt
paths_known names (row ∷ rows) h = (h.0.known, paths_known names rows h.1)

samples_of-rows : (names : List (List ℕ)) (rows : List TakenRow) → samples_of_pairs (pairs_of names rows) ≡ map (λ path. record { stack = named names path.0; weight = path.1 }) (paths_of rows)
samples_of-rows names [] = refl
samples_of-rows names (row ∷ rows) = ap (λ rest. record { stack = named names row.numbers; weight = row.weight } ∷ rest) (samples_of-rows names rows)

pub holds-rows : (names : List (List ℕ)) (rows : List TakenRow) → AllByRecursion (IsNumbered names) rows → Holds names (tree_of (paths_of rows)) (samples_of_pairs (pairs_of names rows))
holds-rows names rows h = record {
  rows = paths_of rows;
  tree_is = refl;
  samples_are = samples_of-rows names rows;
  known = paths_known names rows h;
}

numbered-take : (names : List (List ℕ)) (m : ℕ) (rows : List TakenRow) → AllByRecursion (IsNumbered names) rows → AllByRecursion (IsNumbered names) (take m rows)
numbered-take names zero rows h = tt
numbered-take names (suc m) [] h = tt
numbered-take names (suc m) (row ∷ rows) h = (h.0, numbered-take names m rows h.1)

-- ---- the sums of a sink, and its snapshots

pub merged_sums : (every : Option ℕ) (names : List (List ℕ)) (tree : Tree) (rows : List TakenRow) (snapshots : List Snapshot) → AreMerged every names tree rows snapshots → HasSumsOf names tree (samples_of_pairs (pairs_of names rows))
merged_sums every names tree rows snapshots h =
    subst (λ (t : Tree). HasSumsOf names t (samples_of_pairs (pairs_of names rows))) (sym h.tree_is) (sums-held names (tree_of (paths_of rows)) (samples_of_pairs (pairs_of names rows)) (holds-rows names rows h.numbered) h.distinct)

sources_of-rows : (names : List (List ℕ)) (rows : List TakenRow) → order_of rows ≡ sources_of (pairs_of names rows)
sources_of-rows names rows = sym (map-map (λ pair. pair.0) (pair_of names) rows)

snapshot_is : (names : List (List ℕ)) (rows : List TakenRow) → HasDistinctNames names → AllByRecursion (IsNumbered names) rows → (m : ℕ) → IsSnapshot names (sources_of (pairs_of names rows)) (first_samples (pairs_of names rows)) (snapshot_of rows m)
snapshot_is names rows distinct numbered m = record {
  counts = ap (snapshot_counts m) (sources_of-rows names rows);
  sums =
      let first = numbered-take names m rows numbered in
      let held = sums-held names (tree_of (paths_of (take m rows))) (samples_of_pairs (pairs_of names (take m rows))) (holds-rows names (take m rows) first) distinct in
      subst (λ (pairs : List (ℕ × Sample)). HasSumsOf names (tree_of (paths_of (take m rows))) (samples_of_pairs pairs)) (sym (take-map (pair_of names) m rows)) held;
}

pub merged_snapshots : (every : Option ℕ) (names : List (List ℕ)) (tree : Tree) (rows : List TakenRow) (snapshots : List Snapshot) → AreMerged every names tree rows snapshots
    → AreSnapshots every names (sources_of (pairs_of names rows)) (first_samples (pairs_of names rows)) snapshots
merged_snapshots every names tree rows snapshots h =
    subst (λ (all : List Snapshot). AreSnapshots every names (sources_of (pairs_of names rows)) (first_samples (pairs_of names rows)) all) (sym h.snapshots_are) (record {
      places =
          map-map (λ snapshot. snapshot.at) (snapshot_of rows) (snapshot_places every (length rows))
          ∙ (map-id (snapshot_places every (length rows))
          ∙ ap (snapshot_places every) (sym (length-map (pairs_of names rows) (λ pair. pair.0) ∙ length-map rows (pair_of names))));
      each =
          All-map (IsSnapshot names (sources_of (pairs_of names rows)) (first_samples (pairs_of names rows))) (snapshot_of rows) (snapshot_places every (length rows))
          (λ k d l. snapshot_is names rows h.distinct h.numbered (get_or (snapshot_places every (length rows)) k d));
    })

-- ---- a table that gains names changes nothing of what was merged

numbered-grows : (names longer : List (List ℕ)) (rows : List TakenRow) → Grows names longer → AllByRecursion (IsNumbered names) rows → AllByRecursion (IsNumbered longer) rows
numbered-grows names longer [] g h = tt
numbered-grows names longer (row ∷ rows) g h = (record { known = known-grows names longer row.numbers g h.0.known; weight = h.0.weight }, numbered-grows names longer rows g h.1)

pub pairs_of-grows : (names longer : List (List ℕ)) (rows : List TakenRow) → Grows names longer → AllByRecursion (IsNumbered names) rows → pairs_of longer rows ≡ pairs_of names rows
pairs_of-grows names longer [] g h = refl
pairs_of-grows names longer (row ∷ rows) g h =
    λ i. (row.source, record { stack = sym (named-grows names longer row.numbers g h.0.known) i; weight = row.weight }) ∷ pairs_of-grows names longer rows g h.1 i

pub merged-grows : (every : Option ℕ) (names longer : List (List ℕ)) (tree : Tree) (rows : List TakenRow) (snapshots : List Snapshot) → AreMerged every names tree rows snapshots → Grows names longer → HasDistinctNames longer → AreMerged every longer tree rows snapshots
merged-grows every names longer tree rows snapshots h g distinct = record {
  positive = h.positive;
  distinct = distinct;
  numbered = numbered-grows names longer rows g h.numbered;
  tree_is = h.tree_is;
  snapshots_are = h.snapshots_are;
}

-- ---- one row more

pub merged-push : (every : Option ℕ) (names : List (List ℕ)) (tree new : Tree) (rows : List TakenRow) (row : TakenRow) (snapshots all : List Snapshot) → AreMerged every names tree rows snapshots → IsNumbered names row → new ≡ with_weight tree row.numbers row.weight
    → all ≡ snapshots ++ option_to_list (due_after every (rows ++ row ∷ [])) → AreMerged every names new (rows ++ row ∷ []) all
merged-push every names tree new rows row snapshots all h numbered n e = record {
  positive = h.positive;
  distinct = h.distinct;
  numbered = each-push (IsNumbered names) rows row h.numbered numbered;
  tree_is = n ∙ (ap (λ t. with_weight t row.numbers row.weight) h.tree_is ∙ sym (tree_of-push rows row));
  snapshots_are = e ∙ (ap (λ some. some ++ option_to_list (due_after every (rows ++ row ∷ []))) h.snapshots_are ∙ sym (snapshots_of-push every rows row h.positive));
}

-- ---- the parts of a sink

snapshots_of-none : (every : Option ℕ) → snapshots_of every [] ≡ []
snapshots_of-none None = refl
snapshots_of-none (Some every) = ap (λ n. map (snapshot_of []) (map (λ i. i * every) (range_with_len 1 n))) (zero-div every)

pub merged-starts : (every : Option ℕ) → IfSome every (λ k. 1 ≤ k) → AreMerged every [] tree_map.empty [] []
merged-starts every positive = record {
  positive = positive;
  distinct = λ i j l m e. absurd (omega (arith, l));
  numbered = tt;
  tree_is = refl;
  snapshots_are = sym (snapshots_of-none every);
}

-- a sink that took nothing
pub sink-starts : (tally : Tally) (names : List (List ℕ)) (tree : Tree) (snapshots : List Snapshot) → IsTally tally → IfSome tally.every (λ k. 1 ≤ k) → rows_of tally.taken ≡ [] → names ≡ [] → tree ≡ tree_map.empty → snapshots ≡ [] → IsTreeSink tally names tree snapshots
sink-starts tally names tree snapshots tallied positive rows n t e = record {
  tallied = tallied;
  merged =
      subst (λ (rows : List TakenRow). AreMerged tally.every names tree rows snapshots) (sym rows)
      (subst (λ (names : List (List ℕ)). AreMerged tally.every names tree [] snapshots) (sym n)
      (subst (λ (tree : Tree). AreMerged tally.every [] tree [] snapshots) (sym t)
      (subst (λ (snapshots : List Snapshot). AreMerged tally.every [] tree_map.empty [] snapshots) (sym e) (merged-starts tally.every positive))));
}

pub sink-grows : (tally more : Tally) (names longer : List (List ℕ)) (tree : Tree) (snapshots : List Snapshot) → IsTreeSink tally names tree snapshots → GrowsTo names longer → HasDistinctNames longer → IsTally more → more.every ≡ tally.every → more.taken ≡ tally.taken
    → Grown more longer tree snapshots (pairs_of names (rows_of tally.taken))
sink-grows tally more names longer tree snapshots h g distinct tallied every taken = record {
  sink = record {
    tallied = tallied;
    merged =
        subst (λ (every : Option ℕ). AreMerged every longer tree (rows_of more.taken) snapshots) (sym every)
        (subst (λ (taken : TakenRows). AreMerged tally.every longer tree (rows_of taken) snapshots) (sym taken)
        (merged-grows tally.every names longer tree (rows_of tally.taken) snapshots h.merged g distinct));
  };
  pairs_are = ap (λ taken. pairs_of longer (rows_of taken)) taken ∙ pairs_of-grows names longer (rows_of tally.taken) g h.merged.numbered;
}

pub sink-same : (tally : Tally) (names : List (List ℕ)) (tree new : Tree) (snapshots all : List Snapshot) → IsTreeSink tally names tree snapshots → new ≡ tree → all ≡ snapshots → IsTreeSink tally names new all
sink-same tally names tree new snapshots all h t e =
    subst (λ (kept : List Snapshot). IsTreeSink tally names new kept) (sym e) (subst (λ (kept : Tree). IsTreeSink tally names kept snapshots) (sym t) h)

-- one row more
pub sink-push : (tally more : Tally) (names : List (List ℕ)) (tree new : Tree) (row : TakenRow) (snapshots all : List Snapshot) → IsTreeSink tally names tree snapshots → IsNumbered names row → IsTally more → more.every ≡ tally.every → rows_of more.taken ≡ rows_of tally.taken ++ row ∷ []
    → new ≡ with_weight tree row.numbers row.weight → all ≡ snapshots ++ option_to_list (due_after tally.every (rows_of tally.taken ++ row ∷ []))
    → IsTreeSink more names new all
sink-push tally more names tree new row snapshots all h numbered tallied every taken n e = record {
  tallied = tallied;
  merged =
      subst (λ (every : Option ℕ). AreMerged every names new (rows_of more.taken) all) (sym every)
      (subst (λ (rows : List TakenRow). AreMerged tally.every names new rows all) (sym taken)
      (merged-push tally.every names tree new (rows_of tally.taken) row snapshots all h.merged numbered n e));
}

pub pairs-push : (names : List (List ℕ)) (rows all : List TakenRow) (row : TakenRow) (source : ℕ) (stack : List (List ℕ)) (sample : Sample) → IsRowFor names source stack sample.weight row → stack ≡ sample.stack → all ≡ rows ++ row ∷ []
    → pairs_of names all ≡ pairs_of names rows ++ (source, sample) ∷ []
pairs-push names rows all row source stack sample r s e =
    let pair : pair_of names row ≡ (source, sample) = r.pair_is ∙ (λ i. (source, record { stack = s i; weight = sample.weight })) in
    ap (pairs_of names) e ∙ (map_push (pair_of names) rows row ∙ ap (λ last. pairs_of names rows ++ last ∷ []) pair)

-- ---- weights

weights_few : (names : List (List ℕ)) (rows : List TakenRow) → AllByRecursion (IsNumbered names) rows → weight_sum (samples_of_pairs (pairs_of names rows)) ≤ length rows * (2 ^ 64 - 1)
weights_few names [] h = omega arith
weights_few names (row ∷ rows) h =
    omega (arith, sum_by-cons (λ (sample : Sample). sample.weight) (pair_of names row).1 (samples_of_pairs (pairs_of names rows)), h.0.weight, weights_few names rows h.1)

-- a sum of fewer than 2^64 weights and one more stays below 2^128
pub tree_fits : (tally : Tally) (names : List (List ℕ)) (tree : Tree) (snapshots : List Snapshot) (weight : ℕ) → IsTreeSink tally names tree snapshots → tally.at < 2 ^ 64 → weight < 2 ^ 64 → total_weight tree [] + weight < 2 ^ 128
tree_fits tally names tree snapshots weight h few light =
    let rows = rows_of tally.taken in
    let held = subst (λ (t : Tree). Holds names t (samples_of_pairs (pairs_of names rows))) (sym h.merged.tree_is) (holds-rows names rows h.merged.numbered) in
    let small = holds-small names tree (samples_of_pairs (pairs_of names rows)) held [] in
    omega (arith, small.0, weights_few names rows h.merged.numbered, h.tallied.at_is, few, light)

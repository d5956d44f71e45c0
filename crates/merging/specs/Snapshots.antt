-- Snapshots: which there are, and what each stands for.
use Rattle.std.specs.Prelude.{◌≡◌, ℕ, ◌+◌, ◌*◌, ◌/◌, max, List, [], ◌∷◌, length, map, take, All, Option, None, Some}
use Rattle.std.specs.List.{range_with_len}
use Rattle.sample_tables.specs.declared.samples.Sample.{Sample}
use Rattle.stack_core.specs.Interleaving.{count_of, counts_at, list_of}
use Rattle.merging.specs.declared.snapshots.Snapshot.{Snapshot}
use Rattle.merging.specs.Sums.{all_samples, HasSumsOf}

-- the least number above all sources of an order
abbrev pub sources_seen : List ℕ → ℕ
sources_seen [] = 0
sources_seen (source ∷ order) = max (source + 1) (sources_seen order)

-- how often each source stands in an order: an entry for each, up to the greatest that stands there
abbrev pub source_counts : List ℕ → List ℕ
source_counts order = map (λ source. count_of source order) (range_with_len 0 (sources_seen order))

-- the same among the first m
abbrev pub snapshot_counts : ℕ → List ℕ → List ℕ
snapshot_counts m order = source_counts (take m order)

-- each source's first samples, as many as the source stands among the first m of the order
abbrev pub first_lists : ℕ → List ℕ → List (List Sample) → List (List Sample)
first_lists m order lists =
    map (λ source. take (counts_at m order source) (list_of lists source)) (range_with_len 0 (length lists))

abbrev pub snapshot_samples : ℕ → List ℕ → List (List Sample) → List Sample
snapshot_samples m order lists = all_samples (first_lists m order lists)

-- the samples of pairs of a source and a sample, and those of the first m
abbrev pub samples_of_pairs : List (ℕ × Sample) → List Sample
samples_of_pairs pairs = map (λ pair. pair.1) pairs

abbrev pub first_samples : List (ℕ × Sample) → ℕ → List Sample
first_samples pairs m = samples_of_pairs (take m pairs)

-- k, 2k, 3k and so on, up to n
abbrev pub multiples_upto : ℕ → ℕ → List ℕ
multiples_upto n k = map (λ i. i * k) (range_with_len 1 (n / k))

-- after how many of n samples there are snapshots
abbrev pub snapshot_places : Option ℕ → ℕ → List ℕ
snapshot_places None n = []
snapshot_places (Some every) n = multiples_upto n every

-- the snapshot has the counts of its moment, and the sums of the samples that were first then
pub record IsSnapshot (names : List (List ℕ)) (order : List ℕ) (first : ℕ → List Sample) (snapshot : Snapshot) : Type 0 where
  pub counts : snapshot.counts ≡ snapshot_counts snapshot.at order
  pub sums : HasSumsOf names snapshot.tree (first snapshot.at)

-- the snapshots of an order, each at its place and once
pub record AreSnapshots (every : Option ℕ) (names : List (List ℕ)) (order : List ℕ) (first : ℕ → List Sample) (snapshots : List Snapshot) : Type 0 where
  pub places : map (λ snapshot. snapshot.at) snapshots ≡ snapshot_places every (length order)
  pub each : All (IsSnapshot names order first) snapshots

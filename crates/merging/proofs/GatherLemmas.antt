-- What a run gathered, from what was collected and what its sink holds.
use Rattle.std.proofs.Common.{◌≡◌, ◌<◌, ◌≤◌, ◌+◌, ◌^◌, ℕ, zero, suc, Bool, true, false, ◌&&◌, cond, List, [], ◌∷◌, length, get_or, take, map, sum_by, sym, ap, ◌∙◌, subst, arith, refl, Option, All}
use Rattle.std.specs.List.{AllByRecursion, range_with_len}
use Rattle.std.specs.Str.{bytes_eq}
use Rattle.std.specs.FinMap.{entries}
use Rattle.std.proofs.lemmas.List.{length-map}
use Rattle.std.proofs.lemmas.List.Elements.{All-take, All-weaker}
use Rattle.std.proofs.lemmas.List.FromFn.{length-map-range_with_len}
use Rattle.std.proofs.lemmas.List.Sums.{sum_by-take-le, sum_by-cons}
use Rattle.sample_tables.specs.declared.samples.Sample.{Sample}
use Rattle.sample_tables.specs.declared.samples.TheConstants.{FRAME_LIMIT}
use Rattle.stack_core.specs.Reading.{IsSourceLimited}
use Rattle.sample_tables.specs.Samples.{IsLimited}
use Rattle.stack_core.specs.Ledgers.{ListState}
use Rattle.stack_core.specs.Interleaving.{IsInterleaving, interleaved, sources_of, list_of, counts_at}
use Rattle.stack_core.proofs.InterleavingLemmas.{sources_of-interleaved, IsInterleaving-AreOf}
use Rattle.call_tree.specs.CallTree.{Tree}
use Rattle.call_tree.specs.PathSums.{begins_with, total_of}
use Rattle.call_tree.proofs.TreeSums.{total_of-cons}
use Rattle.call_tree.specs.Listing.{named, AreIn}
use Rattle.merged_stacks.specs.Timeline.{Stack, samples_of, total_weight as weight_sum}
use Rattle.std.specs.Cmp.Lexicographic.{pointwise}
use Rattle.flame_layout.specs.Chart.{begins_alike}
use Rattle.flame_layout.specs.Paths.{total_at, own_at}
use Rattle.merged_stacks.specs.Merged.{weighed}
use Rattle.flame_layout.proofs.PathWords.{total_at-is, own_at-is}
use Rattle.flame_layout.proofs.TreeSamples.{entries_named, path_in}
use Rattle.merging.specs.declared.snapshots.Snapshot.{Snapshot}
use Rattle.merging.specs.Sums.{all_samples, HasSumsOf, IsDrawable}
use Rattle.merging.specs.Snapshots.{samples_of_pairs, first_samples, first_lists, snapshot_samples, IsSnapshot, AreSnapshots}
use Rattle.merging.specs.Gathered.{IsGathered}
use Rattle.source_lists.specs.Lists.{AreLimited}
use Rattle.source_lists.proofs.ListLemmas.{AreSmall, depths_small, lists_small, total_fits}
pub use Rattle.source_lists.proofs.ListLemmas.{timeline_weight}
use Rattle.merging.specs.TreeSinkState.{TreeSinkState}
use Rattle.merging.proofs.PairSums.{sum_by-of_lists, sum_by-first}

-- ---- samples with the same sums

pub sums-same : (names : List (List ℕ)) (tree : Tree) (one other : List Sample) → HasSumsOf names tree one → ((f : Sample → ℕ) → sum_by f one ≡ sum_by f other) → HasSumsOf names tree other
sums-same names tree one other h same =
    let total : (path : Stack) → total_at path one ≡ total_at path other = λ path. total_at-is path one ∙ (same (λ sample. cond (begins_alike (length path) path sample) sample.weight 0) ∙ sym (total_at-is path other)) in
    let own : (path : Stack) → own_at path one ≡ own_at path other = λ path. own_at-is path one ∙ (same (λ sample. cond (pointwise bytes_eq path sample.stack) sample.weight 0) ∙ sym (own_at-is path other)) in
    record {
      total = λ path known. h.total path known ∙ total (named names path);
      own = λ path known. h.own path known ∙ own (named names path);
      distinct = h.distinct;
      numbers = h.numbers;
      stacks = λ path. sym (own path) ∙ h.stacks path;
    }

-- ---- the first samples of lists within the limits

list_small : (lists : List (List Sample)) → AllByRecursion IsSourceLimited lists → (source : ℕ) → IsSourceLimited (list_of lists source)
list_small [] h source = record { each = λ k d l. absurd (omega (arith, l)); total = omega arith }
list_small (list ∷ lists) h zero = h.0
list_small (list ∷ lists) h (suc source) = list_small lists h.1 source

each-range : {A : Type 0} (P : A → Type 0) (f : ℕ → A) (start n : ℕ) → ((i : ℕ) → P (f i)) → AllByRecursion P (map f (range_with_len start n))
each-range P f start zero h = tt
each-range P f start (suc n) h = (h start, each-range P f (start + 1) n h)

pub first_small : (m : ℕ) (order : List ℕ) (lists : List (List Sample)) → AreSmall lists → AreSmall (first_lists m order lists)
first_small m order lists h = record {
  few = omega (arith, h.few, length-map-range_with_len (λ source. take (counts_at m order source) (list_of lists source)) 0 (length lists));
  each =
      each-range IsSourceLimited (λ source. take (counts_at m order source) (list_of lists source)) 0 (length lists) (λ source.
      let list = list_small lists h.each source in
      record { each = All-take IsLimited (counts_at m order source) (list_of lists source) list.each; total = omega (arith, list.total, sum_by-take-le (λ (sample : Sample). sample.weight) (list_of lists source) (counts_at m order source)) });
}

-- ---- a tree with the sums of such lists can be drawn

begins_short : (one other : Stack) → begins_with bytes_eq one other ≡ true → length one ≤ length other
begins_short [] other e = omega arith
begins_short (name ∷ one) [] e = cc
begins_short (name ∷ one) (next ∷ other) e = by (bytes_eq name next) e (begins_short one other)
  where
    by : (b : Bool) → (b && begins_with bytes_eq one other) ≡ true → (begins_with bytes_eq one other ≡ true → length one ≤ length other) → length (name ∷ one) ≤ length (next ∷ other)
    by true f ih = omega (arith, ih f)
    by false f ih = cc

total-depth : (stack : Stack) (most : ℕ) (samples : List Sample) → All (λ sample. length sample.stack ≤ most) samples → 0 < total_at stack samples → length stack ≤ most
unfolding total_of
total-depth stack most [] h w = absurd (omega (arith, w))
total-depth stack most (sample ∷ samples) h w = by (begins_with bytes_eq stack sample.stack) refl (total-depth stack most samples (λ k d l. h (suc k) d (omega (arith, l))))
  where
    total : total_at stack (sample ∷ samples) ≡ cond (begins_with bytes_eq stack sample.stack) sample.weight 0 + total_at stack samples
    total = total_of-cons bytes_eq (sample.stack, sample.weight) (weighed samples) stack

    by : (b : Bool) → begins_with bytes_eq stack sample.stack ≡ b → (0 < total_at stack samples → length stack ≤ most) → length stack ≤ most
    by true e ih = omega (arith, begins_short stack sample.stack e, h 0 sample (omega arith))
    by false e ih = ih (omega (arith, w, total, ap (λ c. cond c sample.weight 0) e))

total-all : (samples : List Sample) → total_at [] samples ≡ weight_sum samples
unfolding total_of
total-all [] = refl
total-all (sample ∷ samples) =
    total_of-cons bytes_eq (sample.stack, sample.weight) (weighed samples) []
    ∙ (ap (λ n. sample.weight + n) (total-all samples) ∙ sym (sum_by-cons (λ (s : Sample). s.weight) sample samples))

pub drawable_samples : (names : List (List ℕ)) (tree : Tree) (samples : List Sample) → HasSumsOf names tree samples → All (λ sample. length sample.stack ≤ FRAME_LIMIT) samples → weight_sum samples < 2 ^ 64 → IsDrawable names tree
drawable_samples names tree samples h depths fits = record {
  total = omega (arith, h.total [] tt, total-all samples, fits);
  depth = λ path w.
      let known : AreIn names path = path_in names (entries tree) path (entries_named names tree h.numbers) w in
      let weighs : 0 < total_at (named names path) samples = omega (arith, w, h.total path known) in
      omega (arith, total-depth (named names path) FRAME_LIMIT samples depths weighs, length-map path (λ n. get_or names n []));
  numbers = h.numbers;
}

pub drawable : (names : List (List ℕ)) (tree : Tree) (lists : List (List Sample)) → HasSumsOf names tree (all_samples lists) → AreSmall lists → IsDrawable names tree
drawable names tree lists h small = drawable_samples names tree (all_samples lists) h (depths_small lists small.each) (total_fits lists small)

-- ---- what was gathered

-- the sink held the samples in their order
pub gathered : (lists : List ListState) (order : List ℕ) (sink : TreeSinkState) → AreLimited lists → IsInterleaving order (samples_of lists) → sink.taken ≡ interleaved order (samples_of lists)
    → HasSumsOf sink.names sink.tree (samples_of_pairs sink.taken) → AreSnapshots sink.every sink.names (sources_of sink.taken) (first_samples sink.taken) sink.snapshots → IsGathered lists order sink.every sink.names sink.tree sink.snapshots
gathered lists order sink limits ordered taken sums made =
    let of = IsInterleaving-AreOf order (samples_of lists) ordered in
    let pairs = interleaved order (samples_of lists) in
    let sources : sources_of (interleaved order (samples_of lists)) ≡ order = sources_of-interleaved order (samples_of lists) ordered in
    record {
      limits = limits;
      ordered = ordered;
      sums =
          sums-same sink.names sink.tree (samples_of_pairs (interleaved order (samples_of lists))) (all_samples (samples_of lists))
          (subst (λ (ps : List (ℕ × Sample)). HasSumsOf sink.names sink.tree (samples_of_pairs ps)) taken sums) (λ f. sum_by-of_lists f pairs (samples_of lists) of);
      made =
          let here = subst (λ (ps : List (ℕ × Sample)). AreSnapshots sink.every sink.names (sources_of ps) (first_samples ps) sink.snapshots) taken made in
          let ordered_so = subst (λ (o : List ℕ). AreSnapshots sink.every sink.names o (first_samples (interleaved order (samples_of lists))) sink.snapshots) sources here in
          record {
            places = ordered_so.places;
            each =
                All-weaker (IsSnapshot sink.names order (first_samples (interleaved order (samples_of lists)))) (IsSnapshot sink.names order (λ m. snapshot_samples m order (samples_of lists)))
                (λ snapshot is. record {
                  counts = is.counts;
                  sums =
                      sums-same sink.names snapshot.tree (first_samples (interleaved order (samples_of lists)) snapshot.at) (snapshot_samples snapshot.at order (samples_of lists)) is.sums (λ f.
                      sum_by-first f pairs (samples_of lists) of snapshot.at ∙ ap (λ o. sum_by f (snapshot_samples snapshot.at o (samples_of lists))) sources);
                }) sink.snapshots ordered_so.each;
          };
    }

-- its tree and its snapshots can be drawn
pub gathered_drawable : (lists : List ListState) (order : List ℕ) (every : Option ℕ) (names : List (List ℕ)) (tree : Tree) (snapshots : List Snapshot) → IsGathered lists order every names tree snapshots → IsDrawable names tree
gathered_drawable lists order every names tree snapshots h = drawable names tree (samples_of lists) h.sums (lists_small lists h.limits)

pub snapshots_drawable : (lists : List ListState) (order : List ℕ) (every : Option ℕ) (names : List (List ℕ)) (tree : Tree) (snapshots : List Snapshot) → IsGathered lists order every names tree snapshots → All (λ snapshot. IsDrawable names snapshot.tree) snapshots
snapshots_drawable lists order every names tree snapshots h =
    All-weaker (IsSnapshot names order (λ m. snapshot_samples m order (samples_of lists))) (λ snapshot. IsDrawable names snapshot.tree)
    (λ snapshot is. drawable names snapshot.tree (first_lists snapshot.at order (samples_of lists)) is.sums (first_small snapshot.at order (samples_of lists) (lists_small lists h.limits))) snapshots h.made.each

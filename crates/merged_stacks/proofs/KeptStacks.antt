-- The sums of the stacks that a list keeps are those of its samples.
use Rattle.std.proofs.Common.{◌≡◌, ℕ, zero, suc, ◌+◌, ◌<◌, ◌≤◌, List, [], ◌∷◌, ◌++◌, Bool, true, false, cond, length, take, get_or, set, map, replicate, sum_by, All, IsPermutation, refl, sym, ap, ◌∙◌, arith}
use Rattle.std.specs.List.{range_with_len}
use Rattle.std.specs.Ordering.{is_eq}
use Rattle.std.proofs.lemmas.List.{map-append, get_or-map, take-map}
use Rattle.std.proofs.lemmas.List.FromFn.{fill_by_all, length-range_with_len, get_or-range_with_len}
use Rattle.std.proofs.lemmas.List.Sorted.{IsPermutation-map, sum_by-IsPermutation, All-permutation}
use Rattle.std.proofs.lemmas.List.Sums.{sum_by-cons, sum_by-append, sum_by_more, sum_by-take-le}
use Rattle.sample_tables.specs.declared.samples.Sample.{Sample}
use Rattle.sample_tables.specs.Rows.{Row, row_at, sample_at, named, name_at}
use Rattle.stack_core.specs.Ledgers.{ListState}
use Rattle.merged_stacks.specs.Order.{stack_cmp}
use Rattle.merged_stacks.specs.Timeline.{Stack, total_weight}
use Rattle.merged_stacks.specs.Merged.{weighed, Weighed, sum_at}
use Rattle.merged_stacks.specs.checked.Growing.{IsSummed}
use Rattle.merged_stacks.specs.checked.Kept.{kept_sample, kept_samples, HaveSameSums, picked, picked_weight, ArePicked}
use Rattle.merged_stacks.specs.checked.Ranked.{Ranked, HasSums}
use Rattle.merged_stacks.proofs.JoinedStacks.{sorted-sum_at}
use Rattle.merged_stacks.proofs.MergedRows.{sum_at-cons, sum_at-nil, sum_at-append}

split : (b : Bool) (x y n m : ℕ) → cond b (x + y) 0 + n ≡ (cond b x 0 + n) + cond b y 0
split true x y n m = omega arith
split false x y n m = omega arith

picked_set : (g : List ℕ → Bool) (stacks : List (List ℕ)) (sums : List ℕ) (k w : ℕ) → length sums ≡ length stacks → k < length stacks
    → picked g stacks (set sums k (get_or sums k 0 + w)) ≡ picked g stacks sums + cond (g (get_or stacks k [])) w 0
picked_set g [] sums k w e lt = absurd (omega arith)
picked_set g (frames ∷ stacks) [] k w e lt = absurd (omega arith)
picked_set g (frames ∷ stacks) (sum ∷ sums) zero w e lt = split (g frames) sum w (picked g stacks sums) 0
picked_set g (frames ∷ stacks) (sum ∷ sums) (suc k) w e lt =
    let rest = picked_set g stacks sums k w (omega arith) (omega arith) in omega (arith, rest)

pub picked_none : (g : List ℕ → Bool) (stacks : List (List ℕ)) (sums : List ℕ) → ((k : ℕ) → get_or sums k 0 ≡ 0) → picked g stacks sums ≡ 0
picked_none g [] sums h = refl
picked_none g (frames ∷ stacks) [] h = refl
picked_none g (frames ∷ stacks) (sum ∷ sums) h =
    let here : sum ≡ 0 = h 0 in
    let rest = picked_none g stacks sums (λ k. h (suc k)) in
    omega (arith, rest, empty (g frames) sum here)
  where
    empty : (b : Bool) (n : ℕ) → n ≡ 0 → cond b n 0 ≡ 0
    empty true n e = e
    empty false n e = refl

pub zero_at : (n k : ℕ) → get_or {A = ℕ} (replicate n 0) k 0 ≡ 0
zero_at zero k = refl
zero_at (suc n) zero = refl
zero_at (suc n) (suc k) = zero_at n k

pub row_weight : (told : List (List ℕ)) (rows : List Row) (samples : List Sample) (i : ℕ) → samples ≡ map (named told) rows → i < length rows → (sample_at samples i).weight ≡ (row_at rows i).weight
row_weight told rows samples i is lt =
    ap (λ (all : List Sample). (sample_at all i).weight) is ∙ ap (λ (s : Sample). s.weight) (get_or-map (named told) rows i (record { frames = []; weight = 0 }) (record { stack = []; weight = 0 }) lt)

-- a row more
pub picked_more : (stacks : List (List ℕ)) (sums : List ℕ) (rows : List Row) (i k w : ℕ) → length sums ≡ length stacks → k < length stacks → i < length rows → get_or stacks k [] ≡ (row_at rows i).frames → w ≡ (row_at rows i).weight
    → ArePicked stacks sums (take i rows) → ArePicked stacks (set sums k (get_or sums k 0 + w)) (take (i + 1) rows)
picked_more stacks sums rows i k w e lk li frames weight h g =
    picked_set g stacks sums k w e lk ∙ (λ j. h g j + cond (g (frames j)) (weight j) 0) ∙ sym (sum_by_more (picked_weight g) rows i (record { frames = []; weight = 0 }) li)

member_le : (stacks : List (List ℕ)) (sums : List ℕ) (k : ℕ) → length sums ≡ length stacks → get_or sums k 0 ≤ picked (λ _. true) stacks sums
member_le [] [] k e = omega arith
member_le [] (sum ∷ sums) k e = absurd (omega arith)
member_le (frames ∷ stacks) [] k e = omega arith
member_le (frames ∷ stacks) (sum ∷ sums) zero e = omega arith
member_le (frames ∷ stacks) (sum ∷ sums) (suc k) e = let rest = member_le stacks sums k (omega arith) in omega (arith, rest)

-- the samples of rows
named_sum : (told : List (List ℕ)) (rows : List Row) (q : Stack) → sum_at (weighed (map (named told) rows)) q ≡ sum_by (picked_weight (λ frames. is_eq (stack_cmp q (map (name_at told) frames)))) rows
named_sum told [] q = sum_at-nil q
named_sum told (row ∷ rows) q =
    let g = λ (frames : List ℕ). is_eq (stack_cmp q (map (name_at told) frames)) in
    sum_at-cons (map (name_at told) row.frames, row.weight) (weighed (map (named told) rows)) q ∙ ap (λ n. picked_weight g row + n) (named_sum told rows q) ∙ sym (sum_by-cons (picked_weight g) row rows)

named_total : (told : List (List ℕ)) (rows : List Row) → total_weight (map (named told) rows) ≡ sum_by (picked_weight (λ _. true)) rows
named_total told [] = refl
named_total told (row ∷ rows) =
    sum_by-cons (λ (sample : Sample). sample.weight) (named told row) (map (named told) rows) ∙ ap (λ n. row.weight + n) (named_total told rows) ∙ sym (sum_by-cons (picked_weight (λ _. true)) row rows)

-- the samples of kept stacks
kept_sum : (told stacks : List (List ℕ)) (sums : List ℕ) (q : Stack) → sum_at (weighed (kept_samples told stacks sums)) q ≡ picked (λ frames. is_eq (stack_cmp q (map (name_at told) frames))) stacks sums
kept_sum told [] sums q = sum_at-nil q
kept_sum told (frames ∷ stacks) [] q = sum_at-nil q
kept_sum told (frames ∷ stacks) (sum ∷ sums) q =
    sum_at-cons (map (name_at told) frames, sum) (weighed (kept_samples told stacks sums)) q ∙ ap (λ n. cond (is_eq (stack_cmp q (map (name_at told) frames))) sum 0 + n) (kept_sum told stacks sums q)

kept_total : (told stacks : List (List ℕ)) (sums : List ℕ) → total_weight (kept_samples told stacks sums) ≡ picked (λ _. true) stacks sums
kept_total told [] sums = refl
kept_total told (frames ∷ stacks) [] = refl
kept_total told (frames ∷ stacks) (sum ∷ sums) =
    sum_by-cons (λ (sample : Sample). sample.weight) (named told (record { frames = frames; weight = sum })) (kept_samples told stacks sums) ∙ ap (λ n. sum + n) (kept_total told stacks sums)

pub kept_same : (told stacks : List (List ℕ)) (sums : List ℕ) (rows : List Row) (samples : List Sample) → samples ≡ map (named told) rows → ArePicked stacks sums rows → HaveSameSums (kept_samples told stacks sums) samples
kept_same told stacks sums rows samples is h = record {
  sums = λ q. kept_sum told stacks sums q ∙ h (λ frames. is_eq (stack_cmp q (map (name_at told) frames))) ∙ sym (named_sum told rows q) ∙ ap (λ all. sum_at (weighed all) q) (sym is);
  total = kept_total told stacks sums ∙ h (λ _. true) ∙ sym (named_total told rows) ∙ ap total_weight (sym is);
}

-- the kept stacks have the sums of a list's first samples
came_kept : (list : ListState) (order sums : List ℕ) (count : ℕ) → IsSummed list order sums count → HaveSameSums (kept_samples list.told list.stacks sums) (take count list.samples)
came_kept list order sums count h =
    kept_same list.told list.stacks sums (take count list.rows) (take count list.samples) (ap (take count) h.samples_named ∙ take-map (named list.told) count list.rows) h.picked

-- there is room for a row's weight
pub picked_room : (told stacks : List (List ℕ)) (sums : List ℕ) (rows : List Row) (samples : List Sample) (i k w : ℕ) → samples ≡ map (named told) rows → length sums ≡ length stacks → i < length rows → w ≡ (row_at rows i).weight
    → ArePicked stacks sums (take i rows) → get_or sums k 0 + w ≤ total_weight samples
picked_room told stacks sums rows samples i k w is e li weight h =
    let g = λ (frames : List ℕ). true in
    omega (arith, member_le stacks sums k e, h g, sum_by_more (picked_weight g) rows i (record { frames = []; weight = 0 }) li, sum_by-take-le (picked_weight g) rows (i + 1), named_total told rows, ap total_weight is)

-- rows that have the sums of samples have those of others that are the same
pub sums_of_same : (names : List (List ℕ)) (samples one other : List Sample) (rows : List Ranked) → HaveSameSums one other → HasSums names (samples ++ one) rows → HasSums names (samples ++ other) rows
sums_of_same names samples one other rows same h = record {
  sums = λ q. h.sums q ∙ both one q ∙ ap (λ n. sum_at (weighed samples) q + n) (same.sums q) ∙ sym (both other q);
  total = h.total ∙ sum_by-append (λ (sample : Sample). sample.weight) samples one ∙ ap (λ n. total_weight samples + n) same.total ∙ sym (sum_by-append (λ (sample : Sample). sample.weight) samples other);
  each = h.each;
}
  where
    both : (xs : List Sample) (q : Stack) → sum_at (weighed (samples ++ xs)) q ≡ sum_at (weighed samples) q + sum_at (weighed xs) q
    both xs q = ap (λ all. sum_at all q) (map-append (λ (sample : Sample). (sample.stack, sample.weight)) samples xs) ∙ sum_at-append (weighed samples) (weighed xs) q

-- the kept stacks by their numbers
kept_len : (told stacks : List (List ℕ)) (sums : List ℕ) → length sums ≡ length stacks → length (kept_samples told stacks sums) ≡ length stacks
kept_len told [] sums e = refl
kept_len told (frames ∷ stacks) [] e = absurd (omega arith)
kept_len told (frames ∷ stacks) (sum ∷ sums) e = let rest = kept_len told stacks sums (omega arith) in omega (arith, rest)

kept_at : (told stacks : List (List ℕ)) (sums : List ℕ) (k : ℕ) (d : Sample) → length sums ≡ length stacks → k < length stacks → get_or (kept_samples told stacks sums) k d ≡ kept_sample told stacks sums k
kept_at told [] sums k d e lt = absurd (omega arith)
kept_at told (frames ∷ stacks) [] k d e lt = absurd (omega arith)
kept_at told (frames ∷ stacks) (sum ∷ sums) zero d e lt = refl
kept_at told (frames ∷ stacks) (sum ∷ sums) (suc k) d e lt = kept_at told stacks sums k d (omega arith) (omega arith)

-- in another order they have the same sums
pub ordered_same : (told stacks : List (List ℕ)) (sums order : List ℕ) (samples : List Sample) → length sums ≡ length stacks → IsPermutation (range_with_len 0 (length stacks)) order
    → HaveSameSums (kept_samples told stacks sums) samples → HaveSameSums (map (kept_sample told stacks sums) order) samples
ordered_same told stacks sums order samples e moved same =
    let f = kept_sample told stacks sums in
    let numbers = range_with_len 0 (length stacks) in
    let is : kept_samples told stacks sums ≡ map f numbers =
    fill_by_all f (kept_samples told stacks sums) (length stacks) (record { stack = []; weight = 0 }) (kept_len told stacks sums e) (λ k lt. kept_at told stacks sums k (record { stack = []; weight = 0 }) e lt) in
    let both : IsPermutation (map f numbers) (map f order) = IsPermutation-map f numbers order moved in
    let weigh : Sample → Weighed = λ sample. (sample.stack, sample.weight) in
    record {
      sums = λ q. sorted-sum_at (weighed (map f numbers)) (weighed (map f order)) q (IsPermutation-map weigh (map f numbers) (map f order) both) ∙ ap (λ all. sum_at (weighed all) q) (sym is) ∙ same.sums q;
      total = sum_by-IsPermutation (λ (sample : Sample). sample.weight) (map f numbers) (map f order) both ∙ ap total_weight (sym is) ∙ same.total;
    }

pub came_same : (list : ListState) (order sums : List ℕ) (count : ℕ) → IsSummed list order sums count → HaveSameSums (map (kept_sample list.told list.stacks sums) order) (take count list.samples)
came_same list order sums count h = ordered_same list.told list.stacks sums order (take count list.samples) h.len h.ordered (came_kept list order sums count h)

-- the numbers are those of stacks
pub ordered_within : (n : ℕ) (order : List ℕ) → IsPermutation (range_with_len 0 n) order → All (λ number. number < n) order
ordered_within n order moved =
    All-permutation (λ number. number < n) (range_with_len 0 n) order moved
    (λ k d lt. let within : k < n = omega (arith, lt, length-range_with_len 0 n) in omega (arith, within, get_or-range_with_len 0 n k d within))

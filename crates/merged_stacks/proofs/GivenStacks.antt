-- Rows over the numbers of a list that is given up have the sums of its samples.
use Rattle.std.proofs.Common.{◌≡◌, ◌∙◌, ℕ, zero, suc, ◌+◌, ◌<◌, List, [], ◌∷◌, ◌++◌, Bool, true, false, cond, nat_lt, length, get_or, take, drop, map, All, sum_by, slice_index, refl, sym, ap, subst, arith}
use Rattle.std.specs.List.{AllByRecursion}
use Rattle.std.specs.Ordering.{is_eq}
use Rattle.std.proofs.lemmas.Bool.{lt-ltb}
use Rattle.std.proofs.lemmas.List.{length-map, map-append}
use Rattle.std.proofs.lemmas.List.Elements.{recursion_from_All}
use Rattle.std.proofs.lemmas.List.Sums.{sum_by-cons, sum_by-append}
use Rattle.sample_tables.specs.declared.samples.Sample.{Sample}
use Rattle.stack_core.specs.Ledgers.{ListState}
use Rattle.sample_tables.specs.Rows.{name_at, named}
use Rattle.sample_tables.specs.Tables.{IsStack}
use Rattle.ranked_rows.specs.Weighing.{weighing}
use Rattle.merged_stacks.specs.Order.{stack_cmp}
use Rattle.merged_stacks.specs.Timeline.{Stack, total_weight}
use Rattle.merged_stacks.specs.Merged.{weighed, sum_at}
use Rattle.merged_stacks.specs.checked.Kept.{kept_samples, HaveSameSums}
use Rattle.merged_stacks.specs.checked.Ranked.{Ranked, named_rows, IsRankedStack, IsNamedBy, HasSums}
use Rattle.merged_stacks.proofs.JoinedStacks.{ranked_stack, ranked_below}
use Rattle.merged_stacks.proofs.KeptStacks.{sums_of_same}
use Rattle.merged_stacks.proofs.MergedRows.{sum_at-cons, sum_at-nil, sum_at-append}

some_weight : (n : ℕ) → nat_lt 0 n ≡ true → 0 < n
some_weight zero e = cc
some_weight (suc n) e = omega arith

no_weight : (n : ℕ) → nat_lt 0 n ≡ false → n ≡ 0
no_weight zero e = refl
no_weight (suc n) e = cc (lt-ltb 0 (suc n) (omega arith))

nothing : (b : Bool) (n : ℕ) → n ≡ 0 → cond b n 0 ≡ 0
nothing true n e = e
nothing false n e = refl

module _ (names told : List (List ℕ)) (ranks : List ℕ) (by : IsNamedBy names ranks told) where
  each_ranked : (stacks : List (List ℕ)) (sums : List ℕ) → AllByRecursion (IsStack told) stacks → AllByRecursion (IsRankedStack names) (weighing ranks stacks sums)
  each_ranked [] sums h = tt
  each_ranked (frames ∷ stacks) [] h = tt
  each_ranked (frames ∷ stacks) (sum ∷ sums) h = choose (nat_lt 0 sum) refl (each_ranked stacks sums h.1)
    where
      row : Ranked
      row = (map (slice_index ranks) frames, sum)

      choose : (b : Bool) → nat_lt 0 sum ≡ b → AllByRecursion (IsRankedStack names) (weighing ranks stacks sums) → AllByRecursion (IsRankedStack names) (cond b (row ∷ weighing ranks stacks sums) (weighing ranks stacks sums))
      choose true e rest = (
        record { below = ranked_below names told ranks frames by h.0.numbers; depth = omega (arith, h.0.depth, length-map frames (slice_index ranks)); positive = some_weight sum e },
        rest,
      )
      choose false e rest = rest

  each_sum : (stacks : List (List ℕ)) (sums : List ℕ) (q : Stack) → AllByRecursion (IsStack told) stacks → sum_at (named_rows names (weighing ranks stacks sums)) q ≡ sum_at (weighed (kept_samples told stacks sums)) q
  each_sum [] sums q h = refl
  each_sum (frames ∷ stacks) [] q h = refl
  each_sum (frames ∷ stacks) (sum ∷ sums) q h = choose (nat_lt 0 sum) refl (each_sum stacks sums q h.1)
    where
      row : Ranked
      row = (map (slice_index ranks) frames, sum)

      same : map (name_at names) (map (slice_index ranks) frames) ≡ map (name_at told) frames
      same = ranked_stack names told ranks frames by h.0.numbers

      kept : sum_at (weighed (kept_samples told (frames ∷ stacks) (sum ∷ sums))) q ≡ cond (is_eq (stack_cmp q (map (name_at told) frames))) sum 0 + sum_at (weighed (kept_samples told stacks sums)) q
      kept = sum_at-cons (map (name_at told) frames, sum) (weighed (kept_samples told stacks sums)) q

      choose : (b : Bool) → nat_lt 0 sum ≡ b → sum_at (named_rows names (weighing ranks stacks sums)) q ≡ sum_at (weighed (kept_samples told stacks sums)) q
          → sum_at (named_rows names (cond b (row ∷ weighing ranks stacks sums) (weighing ranks stacks sums))) q ≡ sum_at (weighed (kept_samples told (frames ∷ stacks) (sum ∷ sums))) q
      choose true e rest =
          sum_at-cons (map (name_at names) (map (slice_index ranks) frames), sum) (named_rows names (weighing ranks stacks sums)) q
          ∙ (λ i. cond (is_eq (stack_cmp q (same i))) sum 0 + rest i) ∙ sym kept
      choose false e rest = omega (arith, rest, kept, nothing (is_eq (stack_cmp q (map (name_at told) frames))) sum (no_weight sum e))

  all_sum : (stacks : List (List ℕ)) (sums : List ℕ) → sum_by (λ (row : Ranked). row.1) (weighing ranks stacks sums) ≡ total_weight (kept_samples told stacks sums)
  all_sum [] sums = refl
  all_sum (frames ∷ stacks) [] = refl
  all_sum (frames ∷ stacks) (sum ∷ sums) = choose (nat_lt 0 sum) refl (all_sum stacks sums)
    where
      row : Ranked
      row = (map (slice_index ranks) frames, sum)

      weight : Ranked → ℕ
      weight one = one.1

      kept : total_weight (kept_samples told (frames ∷ stacks) (sum ∷ sums)) ≡ sum + total_weight (kept_samples told stacks sums)
      kept = sum_by-cons (λ (sample : Sample). sample.weight) (named told (record { frames = frames; weight = sum })) (kept_samples told stacks sums)

      choose : (b : Bool) → nat_lt 0 sum ≡ b → sum_by weight (weighing ranks stacks sums) ≡ total_weight (kept_samples told stacks sums)
          → sum_by weight (cond b (row ∷ weighing ranks stacks sums) (weighing ranks stacks sums)) ≡ total_weight (kept_samples told (frames ∷ stacks) (sum ∷ sums))
      choose true e rest = sum_by-cons weight row (weighing ranks stacks sums) ∙ ap (λ n. sum + n) rest ∙ sym kept
      choose false e rest = omega (arith, rest, kept, no_weight sum e)

  kept_sums : (stacks : List (List ℕ)) (sums : List ℕ) → All (IsStack told) stacks → HasSums names (kept_samples told stacks sums) (weighing ranks stacks sums)
  kept_sums stacks sums h =
      let each = recursion_from_All (IsStack told) stacks h in
      record { sums = λ q. each_sum stacks sums q each; total = all_sum stacks sums; each = each_ranked stacks sums each }

-- rows of nothing have the sums of samples that weigh nothing, so other rows have those of both
pub after_none : (names : List (List ℕ)) (samples more : List Sample) (none rows : List Ranked) → none ≡ [] → HasSums names samples none → HasSums names more rows → HasSums names (samples ++ more) rows
after_none names samples more none rows empty before h = record {
  sums = λ q. omega (arith, h.sums q, both q, before.sums q, ap (λ all. sum_at (named_rows names all) q) empty, sum_at-nil q);
  total = omega (arith, h.total, sum_by-append (λ (sample : Sample). sample.weight) samples more, before.total, ap (sum_by (λ (row : Ranked). row.1)) empty);
  each = h.each;
}
  where
    both : (q : Stack) → sum_at (weighed (samples ++ more)) q ≡ sum_at (weighed samples) q + sum_at (weighed more) q
    both q = ap (λ all. sum_at all q) (map-append (λ (sample : Sample). (sample.stack, sample.weight)) samples more) ∙ sum_at-append (weighed samples) (weighed more) q

-- the rows over the numbers of a list
pub given_sums : (names told : List (List ℕ)) (ranks : List ℕ) (stacks : List (List ℕ)) (sums : List ℕ) (samples : List Sample) (rows : List Ranked) → rows ≡ weighing ranks stacks sums → All (IsStack told) stacks
    → HaveSameSums (kept_samples told stacks sums) samples → IsNamedBy names ranks told → HasSums names samples rows
given_sums names told ranks stacks sums samples rows is known same by =
    subst (HasSums names samples) (sym is) (sums_of_same names [] (kept_samples told stacks sums) samples (weighing ranks stacks sums) same (kept_sums names told ranks by stacks sums known))

-- ---- lists that are given up one after another

pub taken_out : (old left : List ListState) (list : ListState) → list ≡ get_or old 0 list → left ≡ take 0 old ++ drop 1 old → 0 < length old → old ≡ list ∷ left
taken_out [] left list is rest some = absurd (omega arith)
taken_out (one ∷ others) left list is rest some = λ i. sym is i ∷ sym rest i

pub none_left : {X : Type 0} (xs : List X) → length xs ≡ 0 → xs ≡ []
none_left [] e = refl
none_left (x ∷ xs) e = absurd (omega arith)

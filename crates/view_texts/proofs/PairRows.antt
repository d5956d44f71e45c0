-- the stacks of a comparison with an own weight in either profile
use Rattle.std.proofs.Common.{◌≡◌, ℕ, ◌+◌, ◌≤◌, ◌<◌, ◌||◌, List, [], ◌∷◌, ◌++◌, Bool, true, false, cond, map, filter, ltb, sym, ap, subst, refl, arith, ⊎_elim, Contains}
use Rattle.std.proofs.lemmas.List.Elements.{All-map, All-filter}
use Rattle.std.proofs.lemmas.Bool.{cases_lt, lt-ltb, ltb-true}
use Rattle.sample_tables.specs.declared.samples.Sample.{Sample}
use Rattle.flame_layout.specs.declared.boxes.PairRow.{PairRow}
use Rattle.merged_stacks.specs.Timeline.{Stack, drawn}
use Rattle.flame_layout.specs.Graph.{sorted_by_stack}
use Rattle.flame_layout.specs.Paths.{own_at, total_at, paths_of, IsRising}
use Rattle.flame_layout.specs.Comparison.{row_of, comparison_of}
use Rattle.flame_layout.proofs.PathWords.{own_at-is, total_at-is}
use Rattle.flame_layout.proofs.Visits.{own-part}
use Rattle.flame_layout.proofs.Rising.{filter-rise, among-filter, passes-filter}
use Rattle.flame_layout.proofs.LawProofs.{among_path, contains_path, compared_paths}
use Rattle.view_texts.specs.Pairs.{has_own, pairs_of, AreAllPairs}

module _ (before after : List Sample) where
  abbrev paths : List Stack
  paths = paths_of (sorted_by_stack (drawn (before ++ after)))

  -- whether the path has an own weight in either profile
  abbrev owns : Stack → Bool
  owns p = ltb 0 (own_at p before) || ltb 0 (own_at p after)

  pair_paths : (ps : List Stack) → map (λ (row : PairRow). row.path) (filter has_own (map (row_of before after) ps)) ≡ filter owns ps
  pair_paths [] = refl
  pair_paths (p ∷ ps) = by (owns p) (pair_paths ps)
    where
      by : (b : Bool) → map (λ (row : PairRow). row.path) (filter has_own (map (row_of before after) ps)) ≡ filter owns ps
          → map (λ (row : PairRow). row.path) (cond b (row_of before after p ∷ filter has_own (map (row_of before after) ps)) (filter has_own (map (row_of before after) ps))) ≡ cond b (p ∷ filter owns ps) (filter owns ps)
      by true ih = ap (λ rest. p ∷ rest) ih
      by false ih = ih

  weighs_from : (a b : ℕ) → (ltb 0 a || ltb 0 b) ≡ true → 0 < a + b
  weighs_from a b e = by (ltb 0 a) refl e
    where
      by : (t : Bool) → ltb 0 a ≡ t → (t || ltb 0 b) ≡ true → 0 < a + b
      by true f g = omega (arith, ltb-true 0 a f)
      by false f g = omega (arith, ltb-true 0 b g)

  from_weighs : (a b : ℕ) → 0 < a + b → (ltb 0 a || ltb 0 b) ≡ true
  from_weighs a b w =
      ⊎_elim
      (λ l. ap (λ t. t || ltb 0 b) (lt-ltb 0 a l))
      (λ g. by (ltb 0 a) (lt-ltb 0 b (omega (arith, w, g))))
      (cases_lt 0 a)
    where
      by : (t : Bool) → ltb 0 b ≡ true → (t || ltb 0 b) ≡ true
      by true e = refl
      by false e = e

  own-total : (p : Stack) (samples : List Sample) → own_at p samples ≤ total_at p samples
  own-total p samples = omega (arith, own_at-is p samples, total_at-is p samples, own-part p samples)

  pub all_pairs : AreAllPairs before after (pairs_of (comparison_of before after))
  all_pairs =
      let known = compared_paths before after in
      let are = pair_paths paths in
      record {
        rise = subst IsRising (sym are) (filter-rise owns paths known.rise);
        all = λ stack. (
          (λ c. weighs_from (own_at stack before) (own_at stack after) (passes-filter owns stack paths (among_path stack (filter owns paths) (subst (λ ps. Contains ps stack) are c)))),
          (λ w.
              let there = among_path stack paths ((known.all stack).1 (omega (arith, own-total stack before, own-total stack after, w))) in
              subst (λ ps. Contains ps stack) (sym are) (contains_path stack (filter owns paths) (among-filter owns stack paths there (from_weighs (own_at stack before) (own_at stack after) w)))),
        );
        sums = All-filter has_own (λ row. (row.own_before ≡ own_at row.path before) × (row.own_after ≡ own_at row.path after)) (comparison_of before after)
            (All-map (λ row. (row.own_before ≡ own_at row.path before) × (row.own_after ≡ own_at row.path after)) (row_of before after) paths (λ k d l. (refl, refl)));
      }

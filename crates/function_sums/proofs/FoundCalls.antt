-- the frames beside a name, one call after another
use Rattle.std.proofs.Common.{◌≡◌, ℕ, zero, suc, ◌+◌, ◌-◌, ◌<◌, ◌≤◌, Bool, true, false, cond, List, [], ◌∷◌, ◌++◌, drop, get_or, length, map, append_assoc, refl, sym, ap, ◌∙◌, arith}
use Rattle.std.proofs.lemmas.List.{append-nil, map_push}
use Rattle.sample_tables.specs.Rows.{name_at}
use Rattle.function_sums.specs.Calls.{beside, beside_in}
use Rattle.function_sums.specs.declared.call_sides.CallSide.{CallSide}

drop_next : (xs : List ℕ) (k : ℕ) → k < length xs → drop k xs ≡ get_or xs k 0 ∷ drop (suc k) xs
drop_next [] k lt = absurd (omega (arith, lt))
drop_next (x ∷ xs) zero lt = refl
drop_next (x ∷ xs) (suc k) lt = drop_next xs k (omega (arith, lt))

module _ (names : List (List ℕ)) (side : CallSide) (name : List ℕ) (ranks : List ℕ) where
  abbrev from : ℕ → List (List ℕ)
  from k = map (name_at names) (drop k ranks)

  abbrev nth : ℕ → List ℕ
  nth k = name_at names (get_or ranks k 0)

  next : (k : ℕ) → suc k < length ranks → beside_in side name (from k) ≡ beside side name (nth k) (nth (suc k)) ++ beside_in side name (from (suc k))
  next k lt =
      ap (λ xs. beside_in side name (map (name_at names) xs)) (drop_next ranks k (omega (arith, lt)) ∙ ap (λ xs. get_or ranks k 0 ∷ xs) (drop_next ranks (suc k) lt))
      ∙ ap (λ xs. beside side name (nth k) (nth (suc k)) ++ beside_in side name (map (name_at names) xs)) (sym (drop_next ranks (suc k) lt))

  step : (at : ℕ) → 1 ≤ at → at < length ranks → beside_in side name (from (at - 1)) ≡ beside side name (nth (at - 1)) (nth at) ++ beside_in side name (from (at + 1 - 1))
  step zero one lt = absurd (omega (arith, one))
  step (suc k) one lt =
      let here : suc k - 1 ≡ k = omega arith in
      let there : suc k + 1 - 1 ≡ suc k = omega arith in
      ap (λ j. beside_in side name (from j)) here ∙ next k lt ∙ (λ i. beside side name (nth (sym here i)) (nth (suc k)) ++ beside_in side name (from (sym there i)))

  -- a call that is one of the name's, and one that is not
  pub found_more : (at other : ℕ) (found : List ℕ) (b : Bool) → 1 ≤ at → at < length ranks → beside side name (nth (at - 1)) (nth at) ≡ cond b (name_at names other ∷ []) [] → b ≡ true
      → map (name_at names) found ++ beside_in side name (from (at - 1)) ≡ beside_in side name (map (name_at names) ranks)
      → map (name_at names) (found ++ other ∷ []) ++ beside_in side name (from (at + 1 - 1)) ≡ beside_in side name (map (name_at names) ranks)
  found_more at other found b one lt is hit so_far =
      ap (λ front. front ++ beside_in side name (from (at + 1 - 1))) (map_push (name_at names) found other) ∙ append_assoc (map (name_at names) found) (name_at names other ∷ []) (beside_in side name (from (at + 1 - 1)))
      ∙ ap (λ rest. map (name_at names) found ++ rest) (sym (step at one lt ∙ ap (λ it. it ++ beside_in side name (from (at + 1 - 1))) (is ∙ ap (λ b. cond b (name_at names other ∷ []) []) hit)))
      ∙ so_far

  pub found_same : (at other : ℕ) (found : List ℕ) (b : Bool) → 1 ≤ at → at < length ranks → beside side name (nth (at - 1)) (nth at) ≡ cond b (name_at names other ∷ []) [] → b ≡ false
      → map (name_at names) found ++ beside_in side name (from (at - 1)) ≡ beside_in side name (map (name_at names) ranks)
      → map (name_at names) found ++ beside_in side name (from (at + 1 - 1)) ≡ beside_in side name (map (name_at names) ranks)
  found_same at other found b one lt is miss so_far =
      ap (λ rest. map (name_at names) found ++ rest) (sym (step at one lt ∙ ap (λ it. it ++ beside_in side name (from (at + 1 - 1))) (is ∙ ap (λ b. cond b (name_at names other ∷ []) []) miss)))
      ∙ so_far

  -- the last frame has none below it
  pub found_all : (at : ℕ) (found : List ℕ) → 1 ≤ at → length ranks ≤ at → map (name_at names) found ++ beside_in side name (from (at - 1)) ≡ beside_in side name (map (name_at names) ranks)
      → map (name_at names) found ≡ beside_in side name (map (name_at names) ranks)
  found_all at found one past so_far = sym (ap (λ rest. map (name_at names) found ++ rest) (alone ranks (at - 1) (omega (arith, one, past))) ∙ append-nil (map (name_at names) found)) ∙ so_far
    where
      alone : (xs : List ℕ) (k : ℕ) → length xs ≤ k + 1 → beside_in side name (map (name_at names) (drop k xs)) ≡ []
      alone [] zero past = refl
      alone [] (suc k) past = refl
      alone (x ∷ []) zero past = refl
      alone (x ∷ y ∷ xs) zero past = absurd (omega (arith, past))
      alone (x ∷ xs) (suc k) past = alone xs k (omega (arith, past))

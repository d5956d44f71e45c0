-- Stacks that weigh, as rows over their numbers and over the ranks of these.
use Rattle.std.proofs.Common.{◌≡◌, ◌∙◌, ℕ, ◌+◌, ◌-◌, ◌<◌, ◌≤◌, List, [], ◌∷◌, ◌++◌, Bool, true, false, cond, nat_lt, length, get_or, map, take, drop, refl, sym, ap, subst, arith}
use Rattle.std.specs.Prelude.{slice_index}
use Rattle.std.specs.List.{slice_range, AllByRecursion}
use Rattle.std.proofs.Math.Seq.{take-append_seam}
use Rattle.std.proofs.lemmas.List.{append_assoc, drop_more, drop-map, take-map, length-map}
use Rattle.std.proofs.lemmas.List.Elements.{All-from_recursion, recursion_from_All}
use Rattle.sample_tables.specs.declared.stacks.Span.{Span}
use Rattle.sample_tables.specs.Spans.{stacks_of, AreWithin as LieWithin}
use Rattle.ranked_rows.specs.declared.rows.RankedRow.{RankedRow}
use Rattle.ranked_rows.specs.Weighing.{weighing}
use Rattle.ranked_rows.specs.checked.Entries.{ranked_rows, weighing_rows, AreWithin}

-- ---- one span more

one_front : (span : Span) (weight : ℕ) (spans : List Span) (weights : List ℕ) → weighing_rows (span ∷ []) (weight ∷ []) ++ weighing_rows spans weights ≡ weighing_rows (span ∷ spans) (weight ∷ weights)
one_front span weight spans weights = by (nat_lt 0 weight)
  where
    row : RankedRow
    row = record { start = span.start; end = span.end; weight = weight }

    rest : List RankedRow
    rest = weighing_rows spans weights

    by : (b : Bool) → cond b (row ∷ []) [] ++ rest ≡ cond b (row ∷ rest) rest
    by true = refl
    by false = refl

pub weighing_more : (spans : List Span) (weights : List ℕ) (i : ℕ) (d : Span) (e : ℕ) (old new : List RankedRow) → i < length spans → i < length weights
    → new ≡ old ++ weighing_rows (get_or spans i d ∷ []) (get_or weights i e ∷ []) → old ++ weighing_rows (drop i spans) (drop i weights) ≡ weighing_rows spans weights
    → new ++ weighing_rows (drop (i + 1) spans) (drop (i + 1) weights) ≡ weighing_rows spans weights
weighing_more spans weights i d e old new si wi pushed before =
    let span = get_or spans i d in
    let weight = get_or weights i e in
    let rest = weighing_rows (drop (i + 1) spans) (drop (i + 1) weights) in
    ap (λ rows. rows ++ rest) pushed ∙ append_assoc old (weighing_rows (span ∷ []) (weight ∷ [])) rest
    ∙ ap (λ rows. old ++ rows) (one_front span weight (drop (i + 1) spans) (drop (i + 1) weights) ∙ sym (λ k. weighing_rows (drop_more spans i d si k) (drop_more weights i e wi k)))
    ∙ before

-- ---- numbers that became ranks

module _ (f : ℕ → ℕ) (frames : List ℕ) where
  each_within : (spans : List Span) (weights : List ℕ) → AllByRecursion (λ (span : Span). (span.start ≤ span.end) × (span.end ≤ length frames)) spans
      → AllByRecursion (λ (row : RankedRow). (row.start ≤ row.end) × (row.end ≤ length (map f frames))) (weighing_rows spans weights)
  each_within [] weights h = tt
  each_within (span ∷ spans) [] h = tt
  each_within (span ∷ spans) (weight ∷ weights) h = by (nat_lt 0 weight) (each_within spans weights h.1)
    where
      Fits : RankedRow → Type 0
      Fits row = (row.start ≤ row.end) × (row.end ≤ length (map f frames))

      row : RankedRow
      row = record { start = span.start; end = span.end; weight = weight }

      by : (b : Bool) → AllByRecursion Fits (weighing_rows spans weights) → AllByRecursion Fits (cond b (row ∷ weighing_rows spans weights) (weighing_rows spans weights))
      by true rest = ((h.0.0, omega (arith, h.0.1, length-map frames f)), rest)
      by false rest = rest

  -- the rows lie in the ranks
  pub ranks_within : (spans : List Span) (weights : List ℕ) (rows : List RankedRow) (ranks : List ℕ) → LieWithin frames spans → rows ≡ weighing_rows spans weights → ranks ≡ map f frames → AreWithin ranks rows
  ranks_within spans weights rows ranks h rows_are ranks_are =
      let Lies : Span → Type 0 = λ span. (span.start ≤ span.end) × (span.end ≤ length frames) in
      let Fits : RankedRow → Type 0 = λ row. (row.start ≤ row.end) × (row.end ≤ length (map f frames)) in
      subst (λ all. AreWithin all rows) (sym ranks_are)
      (subst (AreWithin (map f frames)) (sym rows_are) (All-from_recursion Fits (weighing_rows spans weights) (each_within spans weights (recursion_from_All Lies spans h))))

slice-map : (f : ℕ → ℕ) (xs : List ℕ) (a b : ℕ) → slice_range (map f xs) a b ≡ map f (slice_range xs a b)
slice-map f xs a b = ap (take (b - a)) (drop-map f a xs) ∙ take-map f (b - a) (drop a xs)

-- they have the ranks of the stacks' numbers
pub rows_ranked : (ranks frames : List ℕ) (spans : List Span) (weights : List ℕ) → ranked_rows (map (slice_index ranks) frames) (weighing_rows spans weights) ≡ weighing ranks (stacks_of frames spans) weights
rows_ranked ranks frames [] weights = refl
rows_ranked ranks frames (span ∷ spans) [] = refl
rows_ranked ranks frames (span ∷ spans) (weight ∷ weights) = by (nat_lt 0 weight) (rows_ranked ranks frames spans weights)
  where
    row : RankedRow
    row = record { start = span.start; end = span.end; weight = weight }

    numbers : List ℕ
    numbers = slice_range frames span.start span.end

    by : (b : Bool) → ranked_rows (map (slice_index ranks) frames) (weighing_rows spans weights) ≡ weighing ranks (stacks_of frames spans) weights
        → ranked_rows (map (slice_index ranks) frames) (cond b (row ∷ weighing_rows spans weights) (weighing_rows spans weights))
        ≡ cond b ((map (slice_index ranks) numbers, weight) ∷ weighing ranks (stacks_of frames spans) weights) (weighing ranks (stacks_of frames spans) weights)
    by true rest = λ i. (slice-map (slice_index ranks) frames span.start span.end i, weight) ∷ rest i
    by false rest = rest

-- what was put in the place of all numbers of a vector
pub whole_put : (n : ℕ) (was seen put : List ℕ) → n ≡ length was → seen ≡ was → length put ≡ length seen → take n (put ++ drop (length put) was) ≡ put
whole_put n was seen put size seen_is same =
    let whole : n ≡ length put = omega (arith, size, same, ap length seen_is) in
    ap (λ k. take k (put ++ drop (length put) was)) whole ∙ take-append_seam put (drop (length put) was)

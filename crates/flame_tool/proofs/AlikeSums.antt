-- Samples that weigh alike have the same sums: list by list, and of all lists together.
use Rattle.std.proofs.Common.{◌≡◌, ℕ, zero, suc, ◌*◌, Bool, true, false, cond, List, [], ◌∷◌, sum_by, refl, sym, ap, ◌∙◌, arith}
use Rattle.std.specs.List.{AllZip}
use Rattle.std.specs.Str.{bytes_eq}
use Rattle.std.specs.Cmp.Lexicographic.{pointwise}
use Rattle.sample_tables.specs.declared.samples.Sample.{Sample}
use Rattle.stack_core.specs.Interleaving.{list_of}
use Rattle.merged_stacks.specs.Merged.{all_samples}
use Rattle.merged_stacks.specs.Timeline.{Stack}
use Rattle.flame_layout.proofs.Sums.{SameSums}
use Rattle.source_lists.specs.Summing.{WeighAlike}
use Rattle.source_lists.proofs.FoundRests.{alike_append}

-- a stack that passes a test has the number 1
as_number : (test : Stack → Bool) (sample : Sample) → cond (test sample.stack) 1 0 * sample.weight ≡ cond (test sample.stack) sample.weight 0
as_number test sample = by (test sample.stack)
  where
    by : (b : Bool) → cond b 1 0 * sample.weight ≡ cond b sample.weight 0
    by true = omega arith
    by false = omega arith

pub alike_sums : (one other : List Sample) → WeighAlike one other → SameSums one other
alike_sums one other alike path =
    let numbers = as_number (pointwise bytes_eq path) in
    sym (ap (λ f. sum_by f one) (λ i sample. numbers sample i)) ∙ alike (λ stack. cond (pointwise bytes_eq path stack) 1 0) ∙ ap (λ f. sum_by f other) (λ i sample. numbers sample i)

-- lists that weigh alike one by one do so together
pub alike_all : (found lists : List (List Sample)) → AllZip WeighAlike found lists → WeighAlike (all_samples found) (all_samples lists)
alike_all [] [] alike number = refl
alike_all [] (list ∷ lists) alike number = absurd alike
alike_all (one ∷ found) [] alike number = absurd alike
alike_all (one ∷ found) (list ∷ lists) alike number =
    alike_append one list (all_samples found) (all_samples lists) alike.0 (alike_all found lists alike.1) number

-- and at each place, also beyond the last
pub alike_at : (found lists : List (List Sample)) → AllZip WeighAlike found lists → (at : ℕ) → WeighAlike (list_of found at) (list_of lists at)
alike_at [] [] alike at number = refl
alike_at [] (list ∷ lists) alike at number = absurd alike
alike_at (one ∷ found) [] alike at number = absurd alike
alike_at (one ∷ found) (list ∷ lists) alike zero number = alike.0 number
alike_at (one ∷ found) (list ∷ lists) alike (suc at) number = alike_at found lists alike.1 at number

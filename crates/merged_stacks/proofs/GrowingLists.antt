-- Lists of which some samples came, and their counts.
use Rattle.std.proofs.Common.{◌≡◌, ℕ, zero, suc, ◌<◌, ◌≤◌, List, [], ◌∷◌, length, get_or, map, replicate, set, refl, sym, ap, ◌∙◌, arith}
use Rattle.std.proofs.lemmas.List.{get_or-map, length-map, map-set}
use Rattle.std.proofs.lemmas.List.Sums.{sum_by-append, sum_by-take-le}
use Rattle.sample_tables.specs.declared.samples.Sample.{Sample}
use Rattle.stack_core.specs.Interleaving.{list_of}
use Rattle.stack_core.specs.Ledgers.{ListState}
use Rattle.merged_stacks.specs.Timeline.{total_weight, samples_of}
use Rattle.merged_stacks.specs.Merged.{all_samples}
use Rattle.merged_stacks.specs.Fronts.{fronts}
use Rattle.merged_stacks.specs.checked.Growing.{ListFront, not_begun, came, lists_in, counts_in}

-- before anything came
pub none_counted : (lists : List ListState) → replicate (length lists) 0 ≡ counts_in (map not_begun lists)
none_counted [] = refl
none_counted (list ∷ lists) = ap (λ counts. 0 ∷ counts) (none_counted lists)

pub lists_begun : (lists : List ListState) → lists_in (map not_begun lists) ≡ lists
lists_begun [] = refl
lists_begun (list ∷ lists) = ap (λ all. list ∷ all) (lists_begun lists)

-- a part, by the counts and by the lists
pub lists_count : (parts : List ListFront) → length (samples_of (lists_in parts)) ≡ length parts
lists_count parts = length-map (lists_in parts) (λ (list : ListState). list.samples) ∙ length-map parts (λ (front : ListFront). front.list)

pub count_at : (parts : List ListFront) (k : ℕ) (part : ListFront) → k < length parts → part ≡ get_or parts k part → get_or (counts_in parts) k 0 ≡ part.count
count_at parts k part lt is = get_or-map (λ (front : ListFront). front.count) parts k part 0 lt ∙ ap (λ (front : ListFront). front.count) (sym is)

pub list_in : (parts : List ListFront) (k : ℕ) (part : ListFront) → k < length parts → part ≡ get_or parts k part → part.list ≡ get_or (lists_in parts) k part.list
list_in parts k part lt is = ap (λ (front : ListFront). front.list) is ∙ sym (get_or-map (λ (front : ListFront). front.list) parts k part part.list lt)

pub samples_in : (parts : List ListFront) (k : ℕ) (part : ListFront) → k < length parts → part ≡ get_or parts k part → list_of (samples_of (lists_in parts)) k ≡ part.list.samples
samples_in parts k part lt is =
    get_or-map (λ (list : ListState). list.samples) (lists_in parts) k part.list [] (omega (arith, lt, length-map parts (λ (front : ListFront). front.list)))
    ∙ ap (λ (list : ListState). list.samples) (sym (list_in parts k part lt is))

-- a part of the same list in the place of another leaves the lists as they are
pub lists_same : (parts : List ListFront) (k : ℕ) (part : ListFront) → part.list ≡ (get_or parts k part).list → lists_in (set parts k part) ≡ lists_in parts
lists_same [] k part same = refl
lists_same (first ∷ parts) zero part same = ap (λ list. list ∷ lists_in parts) same
lists_same (first ∷ parts) (suc k) part same = ap (λ lists. first.list ∷ lists) (lists_same parts k part same)

-- the count of a part that was put in place is put in place among the counts
pub count_set : (parts : List ListFront) (k n : ℕ) (part : ListFront) → n ≡ part.count → set (counts_in parts) k n ≡ counts_in (set parts k part)
count_set parts k n part is = ap (set (counts_in parts) k) is ∙ sym (map-set (λ (front : ListFront). front.count) parts k part)

-- what came is the front of each list
pub fronts_came : (parts : List ListFront) → fronts (samples_of (lists_in parts)) (counts_in parts) ≡ map came parts
fronts_came [] = refl
fronts_came (part ∷ parts) = ap (λ all. came part ∷ all) (fronts_came parts)

-- it weighs no more than all
pub came_weight : (parts : List ListFront) → total_weight (all_samples (map came parts)) ≤ total_weight (all_samples (samples_of (lists_in parts)))
came_weight [] = omega arith
came_weight (part ∷ parts) =
    let weight = λ (sample : Sample). sample.weight in
    omega (arith, came_weight parts, sum_by-append weight (came part) (all_samples (map came parts)), sum_by-append weight part.list.samples (all_samples (samples_of (lists_in parts))), sum_by-take-le weight part.list.samples part.count)

-- how long the paths of a comparison are
use Rattle.std.proofs.Common.{ℕ, ◌≤◌, ◌<◌, List, [], ◌∷◌, ◌++◌, length, arith, ⊎_elim, All, Contains}
use Rattle.std.proofs.lemmas.List.Elements.{All-head, All-tail, All-map, All-weaker, All-contains_itself}
use Rattle.std.proofs.lemmas.List.Sums.{sum_by-cons}
use Rattle.std.proofs.lemmas.Bool.{cases_lt}
use Rattle.sample_tables.specs.declared.samples.Sample.{Sample}
use Rattle.merged_stacks.specs.Timeline.{Stack, drawn}
use Rattle.flame_layout.specs.Chart.{names_shared}
use Rattle.flame_layout.specs.Graph.{sorted_by_stack}
use Rattle.flame_layout.specs.Paths.{total_at, paths_of}
use Rattle.flame_layout.specs.Comparison.{row_of, comparison_of}
use Rattle.flame_layout.proofs.PathWords.{path_total, total_at-is}
use Rattle.flame_layout.proofs.Shared.{IsAlike, alike_from_shared, shared_from_alike}
use Rattle.flame_layout.proofs.Ascending.{total_of_one, one-apart}
use Rattle.flame_layout.proofs.LawProofs.{compared_paths}

-- the stacks have at most that many names
abbrev pub IsShallow : ℕ → List Sample → Type 0
IsShallow most samples = All (λ sample. length sample.stack ≤ most) samples

-- a path with weight is no longer than the longest stack
path_depth : (most : ℕ) (p : Stack) (xs : List Sample) → IsShallow most xs → 0 < path_total p xs → length p ≤ most
path_depth most p [] h w = absurd (omega arith)
path_depth most p (s ∷ xs) h w =
    ⊎_elim
    (λ lt.
    let apart : IsAlike (length p) p s.stack → ⊥ = λ a. omega (arith, lt, shared_from_alike p s.stack (length p) a) in
    path_depth most p xs (All-tail (λ (t : Sample). length t.stack ≤ most) s xs h) (omega (arith, sum_by-cons (total_of_one (length p) p) s xs, one-apart (length p) p s apart, w)))
    (λ le.
    let alike : IsAlike (length p) p s.stack = alike_from_shared p s.stack (length p) le in
    omega (arith, alike.right, All-head (λ (t : Sample). length t.stack ≤ most) s xs h))
    (cases_lt (names_shared p s.stack) (length p))

total_depth : (most : ℕ) (p : Stack) (xs : List Sample) → IsShallow most xs → 0 < total_at p xs → length p ≤ most
total_depth most p xs h w = path_depth most p xs h (omega (arith, total_at-is p xs, w))

pub compared-depth : (most : ℕ) (xs ys : List Sample) → IsShallow most xs → IsShallow most ys → All (λ row. length row.path ≤ most) (comparison_of xs ys)
compared-depth most xs ys h g =
    let paths = paths_of (sorted_by_stack (drawn (xs ++ ys))) in
    All-map (λ row. length row.path ≤ most) (row_of xs ys) paths
    (All-weaker (Contains paths) (λ p. length p ≤ most)
    (λ p c. ⊎_elim
    (λ w. total_depth most p xs h w)
    (λ none. total_depth most p ys g (omega (arith, none, ((compared_paths xs ys).all p).0 c)))
    (cases_lt 0 (total_at p xs)))
    paths (All-contains_itself paths))

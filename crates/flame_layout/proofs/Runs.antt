-- what a run at the front is, sample by sample
use Rattle.std.proofs.Common.{◌≡◌, ℕ, ◌+◌, ◌≤◌, ◌<◌, List, [], ◌∷◌, cond, length, ◌∙◌, ap, eqb}
use Rattle.std.specs.List.{take_while}
use Rattle.std.proofs.lemmas.List.Sums.{take_while-cons, sum_by-cons}
use Rattle.std.proofs.lemmas.Bool.{cond-true, cond-false, lt-leb, le-leb}
use Rattle.sample_tables.specs.declared.samples.Sample.{Sample}
use Rattle.merged_stacks.specs.Timeline.{Stack}
use Rattle.flame_layout.specs.Chart.{names_shared, begins_alike, run_at, own_weight}
use Rattle.flame_layout.proofs.Shared.{IsAlike, IsAlike-refl, same_test, shared_from_alike}

-- what a sample gives to the own weight at a depth
abbrev pub own_of_one : ℕ → Sample → ℕ
own_of_one depth s = cond (eqb (length s.stack) depth) s.weight 0

pub own_weight-cons : (depth : ℕ) (s : Sample) (xs : List Sample) → own_weight depth (s ∷ xs) ≡ own_of_one depth s + own_weight depth xs
own_weight-cons depth s xs = sum_by-cons (own_of_one depth) s xs

pub run_at-alike : (depth : ℕ) (stack : Stack) (s : Sample) (xs : List Sample) → depth ≤ names_shared stack s.stack → run_at depth stack (s ∷ xs) ≡ s ∷ run_at depth stack xs
run_at-alike depth stack s xs h = take_while-cons (begins_alike depth stack) s xs ∙ cond-true _ _ _ (le-leb depth _ h)

pub run_at-apart : (depth : ℕ) (stack : Stack) (s : Sample) (xs : List Sample) → names_shared stack s.stack < depth → run_at depth stack (s ∷ xs) ≡ []
run_at-apart depth stack s xs h = take_while-cons (begins_alike depth stack) s xs ∙ cond-false _ _ _ (lt-leb depth _ h)

-- stacks that begin alike have the same runs
pub run_at-same : (depth : ℕ) (a b : Stack) (xs : List Sample) → IsAlike depth a b → run_at depth a xs ≡ run_at depth b xs
run_at-same depth a b xs h =
    let same : begins_alike depth a ≡ begins_alike depth b = λ i s. same_test a b s.stack depth h i in
    ap (λ p. take_while p xs) same

-- a stack begins like itself
pub names_shared-self : (depth : ℕ) (a : Stack) → depth ≤ length a → depth ≤ names_shared a a
names_shared-self depth a h = shared_from_alike a a depth (IsAlike-refl depth a h)

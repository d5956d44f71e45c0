-- timelines in the order of their stacks
use Rattle.std.proofs.Common.{◌≡◌, ℕ, ◌+◌, ◌<◌, List, [], ◌∷◌, Bool, true, false, cond, sum_by, ◌∙◌, ap, refl, arith, inr, ⊎_elim}
use Rattle.std.specs.Ordering.{is_lt}
use Rattle.std.specs.List.{AllByRecursion}
use Rattle.std.proofs.lemmas.List.Sums.{sum_by-cons}
use Rattle.std.proofs.lemmas.Bool.{cases_lt, cond-true, le-leb, leb-true}
use Rattle.sample_tables.specs.declared.samples.Sample.{Sample}
use Rattle.merged_stacks.specs.Timeline.{Stack, total_weight}
use Rattle.flame_layout.specs.Chart.{names_shared, begins_alike, run_at}
use Rattle.merged_stacks.specs.Order.{stack_cmp}
use Rattle.flame_layout.specs.Graph.{insert_by_stack, sorted_by_stack}
use Rattle.flame_layout.proofs.Shared.{IsAlike, alike_from_shared, shared_from_alike}
use Rattle.flame_layout.proofs.Order.{Le, Le-trans, not_below, below, between_alike}
use Rattle.merged_stacks.proofs.Timelines.{total_weight-cons}
use Rattle.flame_layout.proofs.Runs.{run_at-alike, run_at-apart}

-- each element passes, and a weaker test of each
pub each-weaker : {X : Type 0} (P Q : X → Type 0) → ((x : X) → P x → Q x) → (xs : List X) → AllByRecursion P xs → AllByRecursion Q xs
each-weaker P Q f [] h = h
each-weaker P Q f (x ∷ xs) h = (f x h.0, each-weaker P Q f xs h.1)

-- no stack is below one before it
abbrev pub IsAbove : Stack → List Sample → Type 0
IsAbove stack samples = AllByRecursion (λ s. Le stack s.stack) samples

abbrev pub IsAscending : List Sample → Type 0
IsAscending [] = Unit {0}
IsAscending (s ∷ rest) = IsAbove s.stack rest × IsAscending rest

pub above-lower : (a b : Stack) (xs : List Sample) → Le a b → IsAbove b xs → IsAbove a xs
above-lower a b xs h = each-weaker (λ s. Le b s.stack) (λ s. Le a s.stack) (λ s g. Le-trans a b s.stack h g) xs

insert-above : (a : Stack) (s : Sample) (xs : List Sample) → Le a s.stack → IsAbove a xs → IsAbove a (insert_by_stack s xs)
insert-above a s [] h g = (h, g)
insert-above a s (t ∷ ts) h g = by (is_lt (stack_cmp t.stack s.stack)) (insert-above a s ts h g.1)
  where
    by : (b : Bool) → IsAbove a (insert_by_stack s ts) → IsAbove a (cond b (t ∷ insert_by_stack s ts) (s ∷ t ∷ ts))
    by true ih = (g.0, ih)
    by false ih = (h, (g.0, g.1))

insert-ascending : (s : Sample) (xs : List Sample) → IsAscending xs → IsAscending (insert_by_stack s xs)
insert-ascending s [] h = (tt, tt)
insert-ascending s (t ∷ ts) h = by (is_lt (stack_cmp t.stack s.stack)) refl (insert-ascending s ts h.1)
  where
    by : (b : Bool) → is_lt (stack_cmp t.stack s.stack) ≡ b → IsAscending (insert_by_stack s ts) → IsAscending (cond b (t ∷ insert_by_stack s ts) (s ∷ t ∷ ts))
    by true e ih = (insert-above t.stack s ts (inr (below t.stack s.stack e)) h.0, ih)
    by false e ih =
        let le : Le s.stack t.stack = not_below t.stack s.stack e in
        ((le, above-lower s.stack t.stack ts le h.0), h)

pub sorted-ascending : (xs : List Sample) → IsAscending (sorted_by_stack xs)
sorted-ascending [] = tt
sorted-ascending (s ∷ xs) = insert-ascending s (sorted_by_stack xs) (sorted-ascending xs)

-- a sum does not see the order
insert-sum : (f : Sample → ℕ) (s : Sample) (xs : List Sample) → sum_by f (insert_by_stack s xs) ≡ f s + sum_by f xs
insert-sum f s [] = sum_by-cons f s []
insert-sum f s (t ∷ ts) = by (is_lt (stack_cmp t.stack s.stack)) (insert-sum f s ts)
  where
    by : (b : Bool) → sum_by f (insert_by_stack s ts) ≡ f s + sum_by f ts → sum_by f (cond b (t ∷ insert_by_stack s ts) (s ∷ t ∷ ts)) ≡ f s + sum_by f (t ∷ ts)
    by true ih = omega (arith, sum_by-cons f t (insert_by_stack s ts), ih, sum_by-cons f t ts)
    by false ih = sum_by-cons f s (t ∷ ts)

pub sorted-sum : (f : Sample → ℕ) (xs : List Sample) → sum_by f (sorted_by_stack xs) ≡ sum_by f xs
sorted-sum f [] = refl
sorted-sum f (s ∷ xs) = omega (arith, insert-sum f s (sorted_by_stack xs), sorted-sum f xs, sum_by-cons f s xs)

-- the samples' weights are positive
abbrev pub IsPositive : List Sample → Type 0
IsPositive samples = AllByRecursion (λ s. 0 < s.weight) samples

insert-each : (P : Sample → Type 0) (s : Sample) (xs : List Sample) → P s → AllByRecursion P xs → AllByRecursion P (insert_by_stack s xs)
insert-each P s [] h g = (h, g)
insert-each P s (t ∷ ts) h g = by (is_lt (stack_cmp t.stack s.stack)) (insert-each P s ts h g.1)
  where
    by : (b : Bool) → AllByRecursion P (insert_by_stack s ts) → AllByRecursion P (cond b (t ∷ insert_by_stack s ts) (s ∷ t ∷ ts))
    by true ih = (g.0, ih)
    by false ih = (h, g)

pub sorted-each : (P : Sample → Type 0) (xs : List Sample) → AllByRecursion P xs → AllByRecursion P (sorted_by_stack xs)
sorted-each P [] h = h
sorted-each P (s ∷ xs) h = insert-each P s (sorted_by_stack xs) h.0 (sorted-each P xs h.1)

-- ---- which samples begin with a path

-- the weight that a sample gives to the total at a depth of a stack
abbrev pub total_of_one : ℕ → Stack → Sample → ℕ
total_of_one depth stack s = cond (begins_alike depth stack s) s.weight 0

abbrev pub alike_total : ℕ → Stack → List Sample → ℕ
alike_total depth stack xs = sum_by (total_of_one depth stack) xs

pub one-alike : (d : ℕ) (a : Stack) (s : Sample) → IsAlike d a s.stack → total_of_one d a s ≡ s.weight
one-alike d a s h = cond-true _ s.weight 0 (le-leb d _ (shared_from_alike a s.stack d h))

pub one-apart : (d : ℕ) (a : Stack) (s : Sample) → (IsAlike d a s.stack → ⊥) → total_of_one d a s ≡ 0
one-apart d a s h = by (begins_alike d a s) refl
  where
    by : (b : Bool) → begins_alike d a s ≡ b → cond b s.weight 0 ≡ 0
    by true e = absurd (h (alike_from_shared a s.stack d (leb-true d _ e)))
    by false e = refl

-- past one that does not begin like the stack there is no other
pub apart_after : (d : ℕ) (a : Stack) (t : Sample) (xs : List Sample) → Le a t.stack → IsAbove t.stack xs → (IsAlike d a t.stack → ⊥) → alike_total d a xs ≡ 0
apart_after d a t [] h g n = refl
apart_after d a t (u ∷ us) h g n =
    let none : total_of_one d a u ≡ 0 = one-apart d a u (λ s. n (between_alike d a t.stack u.stack h g.0 s)) in
    omega (arith, sum_by-cons (total_of_one d a) u us, none, apart_after d a t us h g.1 n)

-- so the run at the front is all of the samples that begin so
pub run_total : (d : ℕ) (a : Stack) (xs : List Sample) → IsAbove a xs → IsAscending xs → total_weight (run_at d a xs) ≡ alike_total d a xs
run_total d a [] h g = refl
run_total d a (t ∷ ts) h g =
    ⊎_elim
    (λ lt.
    let none : run_at d a (t ∷ ts) ≡ [] = run_at-apart d a t ts lt in
    let apart : IsAlike d a t.stack → ⊥ = λ s. omega (arith, lt, shared_from_alike a t.stack d s) in
    ap total_weight none ∙ omega (arith, sum_by-cons (total_of_one d a) t ts, one-apart d a t apart, apart_after d a t ts h.0 g.0 apart))
    (λ le.
    ap total_weight (run_at-alike d a t ts le) ∙
    omega (arith, total_weight-cons t (run_at d a ts), sum_by-cons (total_of_one d a) t ts, one-alike d a t (alike_from_shared a t.stack d le), run_total d a ts h.1 g.1))
    (cases_lt (names_shared a t.stack) d)

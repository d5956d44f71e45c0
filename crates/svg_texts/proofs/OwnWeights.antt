-- The own weights of a chart's boxes add up to the weight of its samples: each sample ends in one box.
use Rattle.std.proofs.Common.{◌≡◌, ℕ, zero, suc, ◌+◌, ◌-◌, ◌<◌, ◌≤◌, ◌^◌, true, false, cond, eqb, zero-add, List, [], ◌∷◌, Some, length, map, refl, sym, ap, ◌∙◌, arith}
use Rattle.std.specs.List.{range_with_len, sum_by}
use Rattle.std.proofs.lemmas.Bool.Decides.{nat_tests}
use Rattle.std.proofs.lemmas.List.Sums.{sum_by-append, sum_by-cons}
use Rattle.merged_stacks.proofs.Timelines.{total_weight-cons}
use Rattle.sample_tables.specs.declared.samples.Sample.{Sample}
use Rattle.merged_stacks.specs.Timeline.{Stack, drawn, total_weight}
use Rattle.merged_stacks.proofs.Timelines.{total_weight-drawn}
use Rattle.flame_layout.specs.declared.boxes.ComparedBox.{ComparedBox}
use Rattle.flame_layout.specs.declared.boxes.DrawnPair.{DrawnPair}
use Rattle.flame_layout.specs.declared.boxes.SpanBox.{SpanBox}
use Rattle.flame_layout.specs.Boxes.{SeenBox, compared_of, paired_box, plain_box}
use Rattle.flame_layout.specs.Chart.{names_shared, run_at, own_weight, box_at, boxes_from, boxes_after, chart_of}
use Rattle.flame_layout.specs.Comparison.{compared_boxes_of}
use Rattle.flame_layout.specs.Graph.{graph_of, sorted_by_stack}
use Rattle.flame_layout.proofs.Ascending.{sorted-sum}
use Rattle.flame_layout.proofs.ComparedBoxes.{compared-spans}
use Rattle.flame_layout.proofs.Runs.{own_weight-cons, run_at-alike, run_at-apart, run_at-same, names_shared-self}
use Rattle.flame_layout.proofs.Shared.{alike_from_shared}

-- ---- sums over depths that follow one another

abbrev sum_up : (ℕ → ℕ) → ℕ → ℕ → ℕ
sum_up f first zero = 0
sum_up f first (suc count) = f first + sum_up f (first + 1) count

up-append : (f : ℕ → ℕ) (first one other : ℕ) → sum_up f first (one + other) ≡ sum_up f first one + sum_up f (first + one) other
up-append f first zero other =
    let count : zero + other ≡ other = omega arith in
    let at : first ≡ first + zero = omega arith in
    (λ i. sum_up f (at i) (count i)) ∙ omega arith
up-append f first (suc one) other =
    let count : suc one + other ≡ suc (one + other) = omega arith in
    let at : first + 1 + one ≡ first + suc one = omega arith in
    omega (arith, ap (sum_up f first) count, up-append f (first + 1) one other, ap (λ n. sum_up f n other) at)

up-same : (f g : ℕ → ℕ) (first count : ℕ) → ((k : ℕ) → first ≤ k → k < first + count → f k ≡ g k) → sum_up f first count ≡ sum_up g first count
up-same f g first zero same = refl
up-same f g first (suc count) same =
    omega (arith, same first (omega arith) (omega arith), up-same f g (first + 1) count (λ k low high. same k (omega arith) (omega arith)))

up-none : (f : ℕ → ℕ) (first count : ℕ) → ((k : ℕ) → first ≤ k → k < first + count → f k ≡ 0) → sum_up f first count ≡ 0
up-none f first zero none = refl
up-none f first (suc count) none =
    omega (arith, none first (omega arith) (omega arith), up-none f (first + 1) count (λ k low high. none k (omega arith) (omega arith)))

-- a sum to which one depth brings more
up-one : (f g : ℕ → ℕ) (first count last weight : ℕ) → first ≤ last → last < first + count → ((k : ℕ) → first ≤ k → k < first + count → f k ≡ cond (eqb last k) weight 0 + g k)
    → sum_up f first count ≡ weight + sum_up g first count
up-one f g first count last weight low high one =
    let before = last - first in
    let behind = count - before - 1 in
    let all : count ≡ before + suc behind = omega arith in
    let at : first + before ≡ last = omega arith in
    let fs = ap (sum_up f first) all ∙ up-append f first before (suc behind) in
    let gs = ap (sum_up g first) all ∙ up-append g first before (suc behind) in
    let front = up-same f g first before (λ k l h. one k l (omega arith) ∙ other k (omega arith)) in
    let back = up-same f g (last + 1) behind (λ k l h. one k (omega arith) (omega arith) ∙ other k (omega arith)) in
    let here = one last low high ∙ ap (λ b. cond b weight 0 + g last) (same_test last) in
    omega (arith, fs, gs, front, back, here, opened f, opened g)
  where
    same_test : (k : ℕ) → eqb k k ≡ true
    same_test k = grind (arith, nat_tests)

    other : (k : ℕ) → (last ≡ k → ⊥) → cond (eqb last k) weight 0 + g k ≡ g k
    other k apart = let no : eqb last k ≡ false = grind (arith, nat_tests) in rw no (zero-add (g k))

    opened : (h : ℕ → ℕ) → sum_up h (first + (last - first)) (suc (count - (last - first) - 1)) ≡ h last + sum_up h (last + 1) (count - (last - first) - 1)
    opened h = let at : first + (last - first) ≡ last = omega arith in ap (λ n. h n + sum_up h (n + 1) (count - (last - first) - 1)) at

sum_by-map : {X Y : Type 0} (f : Y → ℕ) (g : X → Y) (xs : List X) → sum_by f (map g xs) ≡ sum_by (λ x. f (g x)) xs
sum_by-map f g [] = refl
sum_by-map f g (x ∷ xs) = omega (arith, sum_by-cons f (g x) (map g xs), sum_by-cons (λ x. f (g x)) x xs, sum_by-map f g xs)

-- ---- the boxes that begin at a sample, and those that go on

abbrev own : SpanBox → ℕ
own span = span.own

abbrev own_at : Stack → List Sample → ℕ → ℕ
own_at stack samples depth = own_weight depth (run_at depth stack samples)

from-own : (stack : Stack) (start : ℕ) (samples : List Sample) (first count : ℕ) → sum_by own (map (box_at stack start samples) (range_with_len first count)) ≡ sum_up (own_at stack samples) first count
from-own stack start samples first zero = refl
from-own stack start samples first (suc count) =
    omega (arith, sum_by-cons own (box_at stack start samples first) (map (box_at stack start samples) (range_with_len (first + 1) count)), from-own stack start samples (first + 1) count)

-- all depths of a sample: its own one has its weight
own-first : (s : Sample) (rest : List Sample) → sum_up (own_at s.stack (s ∷ rest)) 0 (length s.stack + 1) ≡ s.weight + sum_up (own_at s.stack rest) 0 (length s.stack + 1)
own-first s rest =
    up-one (own_at s.stack (s ∷ rest)) (own_at s.stack rest) 0 (length s.stack + 1) (length s.stack) s.weight (omega arith) (omega arith)
    (λ k low high. ap (own_weight k) (run_at-alike k s.stack s rest (names_shared-self k s.stack (omega arith))) ∙ own_weight-cons k s (run_at k s.stack rest))

-- what begins behind a stack, and what goes on from it
after-own : (b : Stack) (start : ℕ) (samples : List Sample) → sum_by own (boxes_after (Some b) start samples) + sum_up (own_at b samples) 0 (length b + 1) ≡ total_weight samples
after-own b start [] = omega (arith, up-none (own_at b []) 0 (length b + 1) (λ k low high. refl))
after-own b start (s ∷ rest) =
    let a = s.stack in
    let n = names_shared b a in
    let samples = s ∷ rest in
    let alike = alike_from_shared b a n (omega arith) in
    let here = from-own a start samples (n + 1) (length a + 1 - (n + 1)) in
    let later = after-own a (start + s.weight) rest in
    let whole = sum_by-append own (boxes_from (n + 1) a start samples) (boxes_after (Some a) (start + s.weight) rest) in
    let open_count : length b + 1 ≡ (n + 1) + (length b - n) = omega (arith, alike.left) in
    let open_parts = ap (sum_up (own_at b samples) 0) open_count ∙ up-append (own_at b samples) 0 (n + 1) (length b - n) in
    let open_shared = up-same (own_at b samples) (own_at a samples) 0 (n + 1) (λ k low high. ap (own_weight k) (run_at-same k b a samples (alike_from_shared b a k (omega arith)))) in
    let open_ended = up-none (own_at b samples) (0 + (n + 1)) (length b - n) (λ k low high. ap (own_weight k) (run_at-apart k b s rest (omega arith))) in
    let all_count : length a + 1 ≡ (n + 1) + (length a + 1 - (n + 1)) = omega (arith, alike.right) in
    let at : 0 + (n + 1) ≡ n + 1 = omega arith in
    let all_parts = ap (sum_up (own_at a samples) 0) all_count ∙ (up-append (own_at a samples) 0 (n + 1) (length a + 1 - (n + 1)) ∙ ap (λ k. sum_up (own_at a samples) 0 (n + 1) + sum_up (own_at a samples) k (length a + 1 - (n + 1))) at) in
    omega (arith, whole, here, later, open_parts, open_shared, open_ended, all_parts, own-first s rest, total_weight-cons s rest)

pub chart-own : (samples : List Sample) → sum_by (λ (span : SpanBox). span.own) (chart_of samples) ≡ total_weight samples
chart-own [] = refl
chart-own (s ∷ rest) =
    let a = s.stack in
    let here = from-own a 0 (s ∷ rest) 0 (length a + 1 - 0) in
    let count : length a + 1 - 0 ≡ length a + 1 = omega arith in
    let later = after-own a (0 + s.weight) rest in
    let whole = sum_by-append own (boxes_from 0 a 0 (s ∷ rest)) (boxes_after (Some a) (0 + s.weight) rest) in
    omega (arith, whole, here, ap (sum_up (own_at a (s ∷ rest)) 0) count, later, own-first s rest, total_weight-cons s rest)

pub graph-own : (samples : List Sample) → sum_by (λ (span : SpanBox). span.own) (graph_of samples) ≡ total_weight samples
graph-own samples = chart-own (sorted_by_stack (drawn samples)) ∙ (sorted-sum (λ (sample : Sample). sample.weight) (drawn samples) ∙ total_weight-drawn samples)

pub comparison-own : (before after : List Sample) → sum_by (λ (compared : ComparedBox). compared.span.own) (compared_boxes_of before after) ≡ total_weight after
comparison-own before after = sym (sum_by-map own (λ (compared : ComparedBox). compared.span) (compared_boxes_of before after)) ∙ (ap (sum_by own) (compared-spans before after) ∙ graph-own after)

-- the own weights of a list of boxes have 64 bits where those of the boxes that it stands for do
pub own_plain : (spans others : List SpanBox) (total : ℕ) → spans ≡ others → sum_by own others ≡ total → total < 2 ^ 64 → sum_by (λ (box : SeenBox). box.span.own) (map plain_box spans) < 2 ^ 64
own_plain spans others total are adds fits = omega (arith, sum_by-map (λ (box : SeenBox). box.span.own) plain_box spans, ap (sum_by own) are, adds, fits)

pub own_paired : (pairs : List DrawnPair) (boxes : List ComparedBox) (total : ℕ) → map compared_of pairs ≡ boxes → sum_by (λ (compared : ComparedBox). compared.span.own) boxes ≡ total → total < 2 ^ 64
    → sum_by (λ (box : SeenBox). box.span.own) (map (λ pair. paired_box (compared_of pair)) pairs) < 2 ^ 64
own_paired pairs boxes total are adds fits =
    omega (
      arith,
      sum_by-map (λ (box : SeenBox). box.span.own) (λ pair. paired_box (compared_of pair)) pairs,
      sum_by-map (λ (compared : ComparedBox). compared.span.own) compared_of pairs,
      ap (sum_by (λ (compared : ComparedBox). compared.span.own)) are,
      adds,
      fits,
    )

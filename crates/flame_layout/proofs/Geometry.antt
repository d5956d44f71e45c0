-- how the boxes of a chart lie
use Rattle.std.proofs.Common.{◌≡◌, ℕ, zero, suc, ◌+◌, ◌-◌, ◌≤◌, ◌<◌, List, [], ◌∷◌, ◌++◌, length, map, get_or, sym, ◌∙◌, ap, subst, refl, arith, inl, inr, ⊎_elim, Option, Some, None, All}
use Rattle.std.specs.List.{AllByRecursion, range_with_len}
use Rattle.std.proofs.lemmas.List.{append_assoc, append-nil}
use Rattle.std.proofs.lemmas.List.Sums.{sum_by-append}
use Rattle.std.proofs.lemmas.Bool.{cases_lt}
use Rattle.sample_tables.specs.declared.samples.Sample.{Sample}
use Rattle.flame_layout.specs.declared.boxes.SpanBox.{SpanBox}
use Rattle.merged_stacks.specs.Timeline.{Stack, total_weight}
use Rattle.flame_layout.specs.Chart.{names_shared, run_at, box_at, boxes_from, first_new, boxes_after, chart_of}
use Rattle.flame_layout.specs.Runs.{last_stack, first_stack, IsApart, IsLongestRun, StandsBefore, IsListed, LiesInside, DontOverlap}
use Rattle.flame_layout.proofs.Shared.{IsAlike, IsAlike-sym, IsAlike-trans, alike_from_shared, shared_from_alike}
use Rattle.merged_stacks.proofs.Timelines.{total_weight-cons, weight_of}
use Rattle.flame_layout.proofs.Runs.{run_at-alike, run_at-apart, run_at-same, names_shared-self}
use Rattle.flame_layout.proofs.Ascending.{IsPositive, each-weaker}
use Rattle.flame_layout.proofs.ChartLaws.{splits}

pub each-join : (P : SpanBox → Type 0) (xs ys : List SpanBox) → AllByRecursion P xs → AllByRecursion P ys → AllByRecursion P (xs ++ ys)
each-join P [] ys h g = g
each-join P (x ∷ xs) ys h g = (h.0, each-join P xs ys h.1 g)

pub each-range : (P : SpanBox → Type 0) (f : ℕ → SpanBox) (m d : ℕ) → ((k : ℕ) → d ≤ k → k < d + m → P (f k)) → AllByRecursion P (map f (range_with_len d m))
each-range P f zero d h = tt
each-range P f (suc m) d h = (h d (omega arith) (omega arith), each-range P f m (d + 1) (λ k l u. h k (omega arith) (omega arith)))

pub all_from_each : (P : SpanBox → Type 0) (xs : List SpanBox) → AllByRecursion P xs → All P xs
all_from_each P [] h = λ k d l. absurd (omega arith)
all_from_each P (x ∷ xs) h = at (all_from_each P xs h.1)
  where
    at : All P xs → (k : ℕ) (d : SpanBox) → k < length (x ∷ xs) → P (get_or (x ∷ xs) k d)
    at ih zero d l = h.0
    at ih (suc k) d l = ih k d (omega arith)

run_total-le : (d : ℕ) (a : Stack) (xs : List Sample) → total_weight (run_at d a xs) ≤ total_weight xs
run_total-le d a xs =
    let split = splits d a xs in
    omega (arith, ap total_weight split.parts, sum_by-append weight_of (run_at d a xs) split.after)

-- each box lies between the start and the end of the samples
pub boxes-within : (b : Option Stack) (start : ℕ) (xs : List Sample) → AllByRecursion (λ span. (start ≤ span.start) × (span.start + span.weight ≤ start + total_weight xs)) (boxes_after b start xs)
boxes-within b start [] = tt
boxes-within b start (s ∷ rest) =
    each-join (λ span. (start ≤ span.start) × (span.start + span.weight ≤ start + total_weight (s ∷ rest))) (boxes_from (first_new b s.stack) s.stack start (s ∷ rest)) (boxes_after (Some s.stack) (start + s.weight) rest)
    (each-range _ (box_at s.stack start (s ∷ rest)) (length s.stack + 1 - first_new b s.stack) (first_new b s.stack) (λ k l u. (omega arith, omega (arith, run_total-le k s.stack (s ∷ rest)))))
    (each-weaker (λ span. (start + s.weight ≤ span.start) × (span.start + span.weight ≤ start + s.weight + total_weight rest)) (λ span. (start ≤ span.start) × (span.start + span.weight ≤ start + total_weight (s ∷ rest)))
    (λ span h. (omega (arith, h.0), omega (arith, h.1, total_weight-cons s rest))) (boxes_after (Some s.stack) (start + s.weight) rest) (boxes-within (Some s.stack) (start + s.weight) rest))

pub chart-within : (xs : List Sample) → All (λ span. span.start + span.weight ≤ total_weight xs) (chart_of xs)
chart-within xs = all_from_each _ (chart_of xs)
    (each-weaker (λ span. (0 ≤ span.start) × (span.start + span.weight ≤ 0 + total_weight xs)) (λ span. span.start + span.weight ≤ total_weight xs) (λ span h. omega (arith, h.1)) (chart_of xs) (boxes-within None 0 xs))

-- a box behind a stack of its depth starts where the run of the stack ends, or after
pub boxes-behind : (b : Stack) (start : ℕ) (xs : List Sample) → AllByRecursion (λ span. start + total_weight (run_at span.depth b xs) ≤ span.start) (boxes_after (Some b) start xs)
boxes-behind b start [] = tt
boxes-behind b start (s ∷ rest) =
    each-join P (boxes_from first s.stack start (s ∷ rest)) (boxes_after (Some s.stack) (start + s.weight) rest)
    (each-range P (box_at s.stack start (s ∷ rest)) (length s.stack + 1 - first) first
    (λ k l u. omega (arith, ap total_weight (run_at-apart k b s rest (omega (arith, l))))))
    (each-weaker (λ span. start + s.weight + total_weight (run_at span.depth s.stack rest) ≤ span.start) P later (boxes_after (Some s.stack) (start + s.weight) rest) (boxes-behind s.stack (start + s.weight) rest))
  where
    first : ℕ
    first = names_shared b s.stack + 1

    P : SpanBox → Type 0
    P = λ span. start + total_weight (run_at span.depth b (s ∷ rest)) ≤ span.start

    later : (span : SpanBox) → start + s.weight + total_weight (run_at span.depth s.stack rest) ≤ span.start → start + total_weight (run_at span.depth b (s ∷ rest)) ≤ span.start
    later span h =
        ⊎_elim
        (λ lt. omega (arith, h, ap total_weight (run_at-apart span.depth b s rest lt)))
        (λ le. omega (
          arith,
          h,
          ap total_weight (run_at-alike span.depth b s rest le),
          total_weight-cons s (run_at span.depth b rest),
          ap total_weight (run_at-same span.depth b s.stack rest (alike_from_shared b s.stack span.depth le)),
        ))
        (cases_lt (names_shared b s.stack) span.depth)

-- the boxes that begin at one sample, and those behind it
apart_range : (m d start : ℕ) (s : Sample) (rest : List Sample) → d + m ≤ length s.stack + 1 → DontOverlap (boxes_after (Some s.stack) (start + s.weight) rest) →
    DontOverlap (map (box_at s.stack start (s ∷ rest)) (range_with_len d m) ++ boxes_after (Some s.stack) (start + s.weight) rest)
apart_range zero d start s rest l h = h
apart_range (suc m) d start s rest l h = (
  each-join P (map (box_at s.stack start (s ∷ rest)) (range_with_len (d + 1) m)) (boxes_after (Some s.stack) (start + s.weight) rest)
      (each-range P (box_at s.stack start (s ∷ rest)) m (d + 1) (λ k le lt e. absurd (omega arith)))
      (each-weaker (λ span. start + s.weight + total_weight (run_at span.depth s.stack rest) ≤ span.start) P later (boxes_after (Some s.stack) (start + s.weight) rest) (boxes-behind s.stack (start + s.weight) rest)),
  apart_range m (d + 1) start s rest (omega arith) h,
)
  where
    P : SpanBox → Type 0
    P = λ other. d ≡ other.depth → start + total_weight (run_at d s.stack (s ∷ rest)) ≤ other.start

    later : (span : SpanBox) → start + s.weight + total_weight (run_at span.depth s.stack rest) ≤ span.start → d ≡ span.depth → start + total_weight (run_at d s.stack (s ∷ rest)) ≤ span.start
    later span h e =
        omega (arith, h, ap total_weight (run_at-alike d s.stack s rest (names_shared-self d s.stack (omega arith))), total_weight-cons s (run_at d s.stack rest), ap (λ k. total_weight (run_at k s.stack rest)) e)

boxes-apart : (b : Option Stack) (start : ℕ) (xs : List Sample) → DontOverlap (boxes_after b start xs)
boxes-apart b start [] = tt
boxes-apart b start (s ∷ rest) =
    ⊎_elim
    (λ lt. apart_range (length s.stack + 1 - first_new b s.stack) (first_new b s.stack) start s rest (omega (arith, lt)) (boxes-apart (Some s.stack) (start + s.weight) rest))
    (λ le.
    let none : length s.stack + 1 - first_new b s.stack ≡ 0 = omega (arith, le) in
    subst (λ m. DontOverlap (map (box_at s.stack start (s ∷ rest)) (range_with_len (first_new b s.stack) m) ++ boxes_after (Some s.stack) (start + s.weight) rest)) (sym none) (boxes-apart (Some s.stack) (start + s.weight) rest))
    (cases_lt (first_new b s.stack) (length s.stack + 1))

pub chart-apart : (xs : List Sample) → DontOverlap (chart_of xs)
chart-apart xs = boxes-apart None 0 xs

-- listed by start, then depth
listed_range : (m d start : ℕ) (s : Sample) (rest : List Sample) → 0 < s.weight → IsListed (boxes_after (Some s.stack) (start + s.weight) rest) →
    IsListed (map (box_at s.stack start (s ∷ rest)) (range_with_len d m) ++ boxes_after (Some s.stack) (start + s.weight) rest)
listed_range zero d start s rest w h = h
listed_range (suc m) d start s rest w h = (
  each-join (StandsBefore (box_at s.stack start (s ∷ rest) d)) (map (box_at s.stack start (s ∷ rest)) (range_with_len (d + 1) m)) (boxes_after (Some s.stack) (start + s.weight) rest)
      (each-range (StandsBefore (box_at s.stack start (s ∷ rest) d)) (box_at s.stack start (s ∷ rest)) m (d + 1) (λ k le lt. inr (refl, omega arith)))
      (each-weaker (λ span. (start + s.weight ≤ span.start) × (span.start + span.weight ≤ start + s.weight + total_weight rest)) (StandsBefore (box_at s.stack start (s ∷ rest) d)) (λ span g. inl (omega (arith, g.0, w))) (boxes_after (Some s.stack) (start + s.weight) rest) (boxes-within (Some s.stack) (start + s.weight) rest)),
  listed_range m (d + 1) start s rest w h,
)

boxes-listed : (b : Option Stack) (start : ℕ) (xs : List Sample) → IsPositive xs → IsListed (boxes_after b start xs)
boxes-listed b start [] w = tt
boxes-listed b start (s ∷ rest) w = listed_range (length s.stack + 1 - first_new b s.stack) (first_new b s.stack) start s rest w.0 (boxes-listed (Some s.stack) (start + s.weight) rest w.1)

pub chart-listed : (xs : List Sample) → IsPositive xs → IsListed (chart_of xs)
chart-listed xs w = boxes-listed None 0 xs w

-- the root
run-all : (a : Stack) (xs : List Sample) → run_at 0 a xs ≡ xs
run-all a [] = refl
run-all a (s ∷ xs) = run_at-alike 0 a s xs (omega arith) ∙ ap (λ r. s ∷ r) (run-all a xs)

-- the first box is the root's, and spans all
pub record SpansAll (total : ℕ) (boxes : List SpanBox) : Type 0 where
  pub root : SpanBox
  pub rest : List SpanBox
  pub first : boxes ≡ root ∷ rest
  pub depth : root.depth ≡ 0
  pub start : root.start ≡ 0
  pub weight : root.weight ≡ total

pub chart-root : (s : Sample) (rest : List Sample) → SpansAll (total_weight (s ∷ rest)) (chart_of (s ∷ rest))
chart-root s rest = by (length s.stack) (length s.stack + 1 - 0) (omega arith)
  where
    by : (n m : ℕ) → m ≡ suc n → SpansAll (total_weight (s ∷ rest)) (map (box_at s.stack 0 (s ∷ rest)) (range_with_len 0 m) ++ boxes_after (Some s.stack) (0 + s.weight) rest)
    by n zero e = absurd (omega arith)
    by n (suc m) e = record {
      root = box_at s.stack 0 (s ∷ rest) 0;
      rest = map (box_at s.stack 0 (s ∷ rest)) (range_with_len (0 + 1) m) ++ boxes_after (Some s.stack) (0 + s.weight) rest;
      first = refl;
      depth = refl;
      start = refl;
      weight = ap total_weight (run-all s.stack (s ∷ rest));
    }

-- ---- the box around a box

-- the samples at the end that begin alike
record EndsAlike (d : ℕ) (a : Stack) (xs : List Sample) : Type 0 where
  front : List Sample
  mid : List Sample
  parts : xs ≡ front ++ mid
  alike : AllByRecursion (λ s. d ≤ names_shared s.stack a) mid
  begins : IsApart d a (last_stack front)

ends_cons : (d : ℕ) (a : Stack) (s : Sample) (rest front mid : List Sample) → rest ≡ front ++ mid → AllByRecursion (λ s. d ≤ names_shared s.stack a) mid → IsApart d a (last_stack front) → EndsAlike d a (s ∷ rest)
ends_cons d a s rest [] mid e h g =
    ⊎_elim
    (λ lt. (let r : EndsAlike d a (s ∷ rest) = record { front = s ∷ []; mid = mid; parts = ap (λ xs. s ∷ xs) e; alike = h; begins = lt } in r))
    (λ le. record { front = []; mid = s ∷ mid; parts = ap (λ xs. s ∷ xs) e; alike = (le, h); begins = tt })
    (cases_lt (names_shared s.stack a) d)
ends_cons d a s rest (f ∷ fs) mid e h g = record { front = s ∷ f ∷ fs; mid = mid; parts = ap (λ xs. s ∷ xs) e; alike = h; begins = g }

ends_alike : (d : ℕ) (a : Stack) (xs : List Sample) → EndsAlike d a xs
ends_alike d a [] = record { front = []; mid = []; parts = refl; alike = tt; begins = tt }
ends_alike d a (s ∷ xs) = let r = ends_alike d a xs in ends_cons d a s xs r.front r.mid r.parts r.alike r.begins

apart-same : (d : ℕ) (a b : Stack) (o : Option Stack) → IsAlike d a b → IsApart d a o → IsApart d b o
apart-same d a b None h g = tt
apart-same d a b (Some c) h g =
    ⊎_elim (λ l. l) (λ le. absurd (omega (arith, g, shared_from_alike c a d (IsAlike-trans (alike_from_shared c b d le) (IsAlike-sym h))))) (cases_lt (names_shared c b) d)

alike-same : (d : ℕ) (a b : Stack) (xs : List Sample) → IsAlike d a b → AllByRecursion (λ s. d ≤ names_shared s.stack a) xs → AllByRecursion (λ s. d ≤ names_shared s.stack b) xs
alike-same d a b xs h = each-weaker (λ s. d ≤ names_shared s.stack a) (λ s. d ≤ names_shared s.stack b) (λ s g. shared_from_alike s.stack b d (IsAlike-trans (alike_from_shared s.stack a d g) h)) xs

each-more : (P : Sample → Type 0) (xs ys : List Sample) → AllByRecursion P xs → AllByRecursion P ys → AllByRecursion P (xs ++ ys)
each-more P [] ys h g = g
each-more P (x ∷ xs) ys h g = (h.0, each-more P xs ys h.1 g)

-- a run of one depth more, with what begins alike before and after it
inside_by : (samples : List Sample) (d : ℕ) (before : List Sample) (first : Sample) (more after front mid : List Sample) → samples ≡ before ++ (first ∷ more ++ after) → IsLongestRun (d + 1) before first more after →
    before ≡ front ++ mid → AllByRecursion (λ s. d ≤ names_shared s.stack first.stack) mid → IsApart d first.stack (last_stack front) → LiesInside samples d before first more
inside_by samples d before first more after front [] e r p h g =
    let split = splits d first.stack after in
    let run = run_at d first.stack after in
    let same : before ≡ front = p ∙ append-nil front in
    let alike : AllByRecursion (λ s. d ≤ names_shared s.stack first.stack) more = each-weaker (λ s. d + 1 ≤ names_shared s.stack first.stack) (λ s. d ≤ names_shared s.stack first.stack) (λ s q. omega (arith, q)) more r.alike in
    record {
      outer_before = front;
      outer_first = first;
      outer_more = more ++ run;
      outer_after = split.after;
      parts = e ∙ ((λ i. same i ++ (first ∷ (more ++ split.parts i))) ∙ ap (λ xs. front ++ (first ∷ xs)) (sym (append_assoc more run split.after)));
      longest = record { deep = omega (arith, r.deep); alike = each-more _ more run alike split.alike; begins = g; ends = split.ends };
      path = refl;
      starts = omega (arith, ap total_weight same);
      ends = omega (arith, ap total_weight same, total_weight-cons first more, total_weight-cons first (more ++ run), sum_by-append weight_of more run);
    }
inside_by samples d before first more after front (m ∷ ms) e r p h g =
    let split = splits d first.stack after in
    let run = run_at d first.stack after in
    let outer = ms ++ (first ∷ (more ++ run)) in
    let like : IsAlike d m.stack first.stack = alike_from_shared m.stack first.stack d h.0 in
    let alike : AllByRecursion (λ s. d ≤ names_shared s.stack first.stack) more = each-weaker (λ s. d + 1 ≤ names_shared s.stack first.stack) (λ s. d ≤ names_shared s.stack first.stack) (λ s q. omega (arith, q)) more r.alike in
    let all : AllByRecursion (λ s. d ≤ names_shared s.stack first.stack) (ms ++ (first ∷ (more ++ run))) = each-more _ ms (first ∷ (more ++ run)) h.1 (names_shared-self d first.stack (omega (arith, r.deep)), each-more _ more run alike split.alike) in
    let last : (first ∷ (more ++ after)) ≡ (first ∷ (more ++ run)) ++ split.after = (λ i. first ∷ (more ++ split.parts i)) ∙ ap (λ xs. first ∷ xs) (sym (append_assoc more run split.after)) in
    record {
      outer_before = front;
      outer_first = m;
      outer_more = ms ++ (first ∷ (more ++ run));
      outer_after = split.after;
      parts = e ∙ ((λ i. p i ++ last i) ∙ (append_assoc front (m ∷ ms) ((first ∷ (more ++ run)) ++ split.after) ∙ ap (λ xs. front ++ (m ∷ xs)) (sym (append_assoc ms (first ∷ (more ++ run)) split.after))));
      longest = record { deep = like.left; alike = alike-same d first.stack m.stack (ms ++ (first ∷ (more ++ run))) (IsAlike-sym like) all; begins = apart-same d first.stack m.stack (last_stack front) (IsAlike-sym like) g; ends = apart-same d first.stack m.stack (first_stack split.after) (IsAlike-sym like) split.ends };
      path = like.same;
      starts = omega (arith, ap total_weight p, sum_by-append weight_of front (m ∷ ms));
      ends = omega (arith, ap total_weight p, sum_by-append weight_of front (m ∷ ms), total_weight-cons m ms, total_weight-cons first more, total_weight-cons m outer, sum_by-append weight_of ms (first ∷ (more ++ run)), total_weight-cons first (more ++ run), sum_by-append weight_of more run);
    }

pub lies_inside : (samples : List Sample) (d : ℕ) (before : List Sample) (first : Sample) (more after : List Sample) → samples ≡ before ++ (first ∷ more ++ after) → IsLongestRun (d + 1) before first more after → LiesInside samples d before first more
lies_inside samples d before first more after e r =
    let t = ends_alike d first.stack before in
    inside_by samples d before first more after t.front t.mid e r t.parts t.alike t.begins

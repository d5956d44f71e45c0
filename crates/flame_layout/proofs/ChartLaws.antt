-- the boxes of a chart are the longest runs
use Rattle.std.proofs.Common.{◌≡◌, ℕ, zero, suc, ◌+◌, ◌-◌, ◌≤◌, ◌<◌, List, [], ◌∷◌, ◌++◌, length, map, take, sym, ◌∙◌, ap, subst, refl, arith, ◌⊎◌, inl, inr, ⊎_elim, Option, Some, None, Contains}
use Rattle.std.specs.List.{AllByRecursion, range_with_len, last_or}
use Rattle.std.proofs.lemmas.Bool.{cases_lt, cases_eq}
use Rattle.sample_tables.specs.declared.samples.Sample.{Sample}
use Rattle.flame_layout.specs.declared.boxes.SpanBox.{SpanBox}
use Rattle.merged_stacks.specs.Timeline.{Stack, total_weight}
use Rattle.flame_layout.specs.Chart.{names_shared, run_at, own_weight, box_name, box_at, boxes_from, first_new, boxes_after, chart_of}
use Rattle.flame_layout.specs.Runs.{stacks_of, first_stack, IsApart, IsLongestRun, run_box, IsOfRun}
use Rattle.flame_layout.proofs.Shared.{IsAlike-sym, alike_from_shared, shared_from_alike}
use Rattle.merged_stacks.proofs.Timelines.{total_weight-cons}
use Rattle.flame_layout.proofs.Runs.{run_at-alike, run_at-apart, names_shared-self}

-- an element stands in the list
abbrev pub In : {X : Type 0} → X → List X → Type 0
In x [] = ⊥
In x (y ∷ ys) = (x ≡ y) ⊎ In x ys

pub contains_from : {X : Type 0} (x : X) (xs : List X) → In x xs → Contains xs x
contains_from x [] h = absurd h
contains_from x (y ∷ ys) h =
    ⊎_elim (λ e. (0, omega arith, sym e)) (λ m. let c = contains_from x ys m in (suc c.0, omega (arith, c.1), c.2)) h

pub from_contains : {X : Type 0} (x : X) (xs : List X) → Contains xs x → In x xs
from_contains x [] c = absurd (omega (arith, c.1))
from_contains x (y ∷ ys) (zero, l, e) = inl (sym e)
from_contains x (y ∷ ys) (suc k, l, e) = inr (from_contains x ys (k, omega (arith, l), e))

pub in-left : {X : Type 0} (x : X) (xs ys : List X) → In x xs → In x (xs ++ ys)
in-left x [] ys h = absurd h
in-left x (y ∷ xs) ys h = ⊎_elim (λ e. inl e) (λ m. inr (in-left x xs ys m)) h

pub in-right : {X : Type 0} (x : X) (xs ys : List X) → In x ys → In x (xs ++ ys)
in-right x [] ys h = h
in-right x (y ∷ xs) ys h = inr (in-right x xs ys h)

pub in-split : {X : Type 0} (x : X) (xs ys : List X) → In x (xs ++ ys) → In x xs ⊎ In x ys
in-split x [] ys h = inr h
in-split x (y ∷ xs) ys h = ⊎_elim (λ e. inl (inl e)) (λ m. ⊎_elim (λ l. inl (inr l)) (λ r. inr r) (in-split x xs ys m)) h

pub in-range : {X : Type 0} (f : ℕ → X) (m d k : ℕ) → d ≤ k → k < d + m → In (f k) (map f (range_with_len d m))
in-range f zero d k h l = absurd (omega arith)
in-range f (suc m) d k h l = ⊎_elim (λ e. inl (ap f (sym e))) (λ n. inr (in-range f m (d + 1) k (omega arith) (omega arith))) (cases_eq d k)

-- an element of such a list, with its place
pub record IsAt {X : Type 0} (f : ℕ → X) (m d : ℕ) (x : X) : Type 0 where
  pub place : ℕ
  pub low : d ≤ place
  pub high : place < d + m
  pub is : x ≡ f place

pub at-range : {X : Type 0} (f : ℕ → X) (m d : ℕ) (x : X) → In x (map f (range_with_len d m)) → IsAt f m d x
at-range f zero d x h = absurd h
at-range f (suc m) d x h =
    ⊎_elim
    (λ e. (let r : IsAt f (suc m) d x = record { place = d; low = omega arith; high = omega arith; is = e } in r))
    (λ n. let t = at-range f m (d + 1) x n in record { place = t.place; low = omega (arith, t.low); high = omega (arith, t.high); is = t.is })
    h

shared-flip : (d : ℕ) (a b : Stack) → d ≤ names_shared a b → d ≤ names_shared b a
shared-flip d a b h = shared_from_alike b a d (IsAlike-sym (alike_from_shared a b d h))

shared-flip_lt : (d : ℕ) (a b : Stack) → names_shared a b < d → names_shared b a < d
shared-flip_lt d a b h = ⊎_elim (λ l. l) (λ g. absurd (omega (arith, shared-flip d b a g, h))) (cases_lt (names_shared b a) d)

-- the run at the front of samples that begin alike, up to one that does not
run-whole : (d : ℕ) (a : Stack) (more after : List Sample) → AllByRecursion (λ s. d ≤ names_shared s.stack a) more → IsApart d a (first_stack after) → run_at d a (more ++ after) ≡ more
run-whole d a [] [] h e = refl
run-whole d a [] (t ∷ ts) h e = run_at-apart d a t ts (shared-flip_lt d t.stack a e)
run-whole d a (s ∷ more) after h e = run_at-alike d a s (more ++ after) (shared-flip d s.stack a h.0) ∙ ap (λ xs. s ∷ xs) (run-whole d a more after h.1 e)

-- what is behind the run at the front
pub record Splits (d : ℕ) (a : Stack) (xs : List Sample) : Type 0 where
  pub after : List Sample
  pub parts : xs ≡ run_at d a xs ++ after
  pub alike : AllByRecursion (λ s. d ≤ names_shared s.stack a) (run_at d a xs)
  pub ends : IsApart d a (first_stack after)

pub splits : (d : ℕ) (a : Stack) (xs : List Sample) → Splits d a xs
splits d a [] = record { after = []; parts = refl; alike = tt; ends = tt }
splits d a (s ∷ xs) =
    ⊎_elim
    (λ lt.
    let none : run_at d a (s ∷ xs) ≡ [] = run_at-apart d a s xs lt in
    (let r : Splits d a (s ∷ xs) = record {
      after = s ∷ xs;
      parts = ap (λ r. r ++ (s ∷ xs)) (sym none);
      alike = subst (λ r. AllByRecursion (λ (s : Sample). d ≤ names_shared s.stack a) r) (sym none) tt;
      ends = shared-flip_lt d a s.stack lt;
    } in r))
    (λ le.
    let rest = splits d a xs in
    let one : run_at d a (s ∷ xs) ≡ s ∷ run_at d a xs = run_at-alike d a s xs le in
    record {
      after = rest.after;
      parts = ap (λ r. s ∷ r) rest.parts ∙ ap (λ r. r ++ rest.after) (sym one);
      alike = subst (λ r. AllByRecursion (λ (s : Sample). d ≤ names_shared s.stack a) r) (sym one) (shared-flip d a s.stack le, rest.alike);
      ends = rest.ends;
    })
    (cases_lt (names_shared a s.stack) d)

apart-new : (b : Option Stack) (a : Stack) (d : ℕ) → IsApart d a b → first_new b a ≤ d
apart-new None a d h = omega arith
apart-new (Some b) a d h = omega arith

new-apart : (b : Option Stack) (a : Stack) (d : ℕ) → first_new b a ≤ d → IsApart d a b
new-apart None a d h = tt
new-apart (Some b) a d h = omega arith

-- each longest run has its box
pub run_has_box : (b : Option Stack) (start d : ℕ) (before : List Sample) (first : Sample) (more after : List Sample) →
    d ≤ length first.stack → AllByRecursion (λ s. d ≤ names_shared s.stack first.stack) more → IsApart d first.stack (last_or b (stacks_of before)) → IsApart d first.stack (first_stack after) →
    In (record { depth = d; name = box_name d first.stack; start = start + total_weight before; weight = total_weight (first ∷ more); own = own_weight d (first ∷ more) })
    (boxes_after b start (before ++ (first ∷ more ++ after)))
run_has_box b start d [] first more after deep alike begins ends =
    let run : run_at d first.stack (first ∷ (more ++ after)) ≡ first ∷ more =
    run_at-alike d first.stack first (more ++ after) (names_shared-self d first.stack deep) ∙ ap (λ xs. first ∷ xs) (run-whole d first.stack more after alike ends) in
    let at_start : start ≡ start + total_weight [] = omega arith in
    let new : first_new b first.stack ≤ d = apart-new b first.stack d begins in
    let box : box_at first.stack start (first ∷ (more ++ after)) d ≡ record { depth = d; name = box_name d first.stack; start = start + total_weight []; weight = total_weight (first ∷ more); own = own_weight d (first ∷ more) } =
    λ i. record { depth = d; name = box_name d first.stack; start = at_start i; weight = total_weight (run i); own = own_weight d (run i) } in
    in-left _ (boxes_from (first_new b first.stack) first.stack start (first ∷ (more ++ after))) _
    (subst (λ x. In x (boxes_from (first_new b first.stack) first.stack start (first ∷ (more ++ after)))) box
    (in-range (box_at first.stack start (first ∷ (more ++ after))) (length first.stack + 1 - first_new b first.stack) (first_new b first.stack) d new (omega (arith, deep, new))))
run_has_box b start d (t ∷ before) first more after deep alike begins ends =
    let later = run_has_box (Some t.stack) (start + t.weight) d before first more after deep alike begins ends in
    let at_start : start + t.weight + total_weight before ≡ start + total_weight (t ∷ before) = omega (arith, total_weight-cons t before) in
    in-right _ (boxes_from (first_new b t.stack) t.stack start (t ∷ (before ++ (first ∷ more ++ after)))) _
    (subst (λ n. In (record { depth = d; name = box_name d first.stack; start = n; weight = total_weight (first ∷ more); own = own_weight d (first ∷ more) }) (boxes_after (Some t.stack) (start + t.weight) (before ++ (first ∷ more ++ after)))) at_start later)

-- a box of the boxes behind, with its run
pub record BehindRun (b : Option Stack) (start : ℕ) (samples : List Sample) (box : SpanBox) : Type 0 where
  pub depth : ℕ
  pub before : List Sample
  pub first : Sample
  pub more : List Sample
  pub after : List Sample
  pub parts : samples ≡ before ++ (first ∷ more ++ after)
  pub deep : depth ≤ length first.stack
  pub alike : AllByRecursion (λ s. depth ≤ names_shared s.stack first.stack) more
  pub begins : IsApart depth first.stack (last_or b (stacks_of before))
  pub ends : IsApart depth first.stack (first_stack after)
  pub is : box ≡ record { depth = depth; name = box_name depth first.stack; start = start + total_weight before; weight = total_weight (first ∷ more); own = own_weight depth (first ∷ more) }

-- the same with the path of the box, the first names of its run
pub record BehindPath (b : Option Stack) (start : ℕ) (samples : List Sample) (box : SpanBox) (path : Stack) : Type 0 where
  pub run : BehindRun b start samples box
  pub names : path ≡ take run.depth run.first.stack

-- a box of a run that begins at the first sample
pub path_here : (b : Option Stack) (start d : ℕ) (s : Sample) (rest : List Sample) → first_new b s.stack ≤ d → d ≤ length s.stack →
    BehindPath b start (s ∷ rest) (box_at s.stack start (s ∷ rest) d) (take d s.stack)
path_here b start d s rest new deep =
    let split = splits d s.stack rest in
    let run : run_at d s.stack (s ∷ rest) ≡ s ∷ run_at d s.stack rest = run_at-alike d s.stack s rest (names_shared-self d s.stack deep) in
    let at_start : start ≡ start + total_weight [] = omega arith in
    record {
      run = record {
        depth = d;
        before = [];
        first = s;
        more = run_at d s.stack rest;
        after = split.after;
        parts = ap (λ xs. s ∷ xs) split.parts;
        deep = deep;
        alike = split.alike;
        begins = new-apart b s.stack d new;
        ends = split.ends;
        is = λ i. record { depth = d; name = box_name d s.stack; start = at_start i; weight = total_weight (run i); own = own_weight d (run i) };
      };
      names = refl;
    }

-- a box of a run that begins later
pub path_later : (b : Option Stack) (start : ℕ) (s : Sample) (rest : List Sample) (box : SpanBox) (path : Stack) → BehindPath (Some s.stack) (start + s.weight) rest box path → BehindPath b start (s ∷ rest) box path
path_later b start s rest box path h =
    let t = h.run in
    let at_start : start + s.weight + total_weight t.before ≡ start + total_weight (s ∷ t.before) = omega (arith, total_weight-cons s t.before) in
    record {
      run = record {
        depth = t.depth;
        before = s ∷ t.before;
        first = t.first;
        more = t.more;
        after = t.after;
        parts = ap (λ xs. s ∷ xs) t.parts;
        deep = t.deep;
        alike = t.alike;
        begins = t.begins;
        ends = t.ends;
        is = t.is ∙ (λ i. record { depth = t.depth; name = box_name t.depth t.first.stack; start = at_start i; weight = total_weight (t.first ∷ t.more); own = own_weight t.depth (t.first ∷ t.more) });
      };
      names = h.names;
    }

pub box_has_run : (b : Option Stack) (start : ℕ) (samples : List Sample) (box : SpanBox) → In box (boxes_after b start samples) → BehindRun b start samples box
box_has_run b start [] box h = absurd h
box_has_run b start (s ∷ rest) box h =
    ⊎_elim
    (λ here.
    let at = at-range (box_at s.stack start (s ∷ rest)) (length s.stack + 1 - first_new b s.stack) (first_new b s.stack) box here in
    subst (BehindRun b start (s ∷ rest)) (sym at.is) (path_here b start at.place s rest at.low (omega (arith, at.low, at.high))).run)
    (λ there.
    let t = box_has_run (Some s.stack) (start + s.weight) rest box there in
    (path_later b start s rest box (take t.depth t.first.stack) (record { run = t; names = refl })).run)
    (in-split box (boxes_from (first_new b s.stack) s.stack start (s ∷ rest)) (boxes_after (Some s.stack) (start + s.weight) rest) h)

-- the run of a box of a whole timeline
abbrev pub run_of_behind : (samples : List Sample) (box : SpanBox) → BehindRun None 0 samples box → IsOfRun samples box
run_of_behind samples box t =
    let at_start : 0 + total_weight t.before ≡ total_weight t.before = omega arith in
    record {
      depth = t.depth;
      before = t.before;
      first = t.first;
      more = t.more;
      after = t.after;
      parts = t.parts;
      longest = record { deep = t.deep; alike = t.alike; begins = t.begins; ends = t.ends };
      is = t.is ∙ (λ i. record { depth = t.depth; name = box_name t.depth t.first.stack; start = at_start i; weight = total_weight (t.first ∷ t.more); own = own_weight t.depth (t.first ∷ t.more) });
    }

pub runs_have_boxes : (depth : ℕ) (before : List Sample) (first : Sample) (more after : List Sample) → IsLongestRun depth before first more after →
    Contains (chart_of (before ++ (first ∷ more ++ after))) (run_box depth before first more)
runs_have_boxes depth before first more after h =
    let in_chart = run_has_box None 0 depth before first more after h.deep h.alike h.begins h.ends in
    let at_start : 0 + total_weight before ≡ total_weight before = omega arith in
    contains_from _ _ (subst (λ n. In (record { depth = depth; name = box_name depth first.stack; start = n; weight = total_weight (first ∷ more); own = own_weight depth (first ∷ more) }) (chart_of (before ++ (first ∷ more ++ after)))) at_start in_chart)

pub boxes_have_runs : (samples : List Sample) (box : SpanBox) → Contains (chart_of samples) box → IsOfRun samples box
boxes_have_runs samples box c = run_of_behind samples box (box_has_run None 0 samples box (from_contains box (chart_of samples) c))

-- one more sample in front of what was walked
use Rattle.std.proofs.Common.{add-one, ◌≡◌, ℕ, zero, suc, ◌+◌, ◌-◌, ◌≤◌, ◌<◌, List, [], ◌∷◌, ◌++◌, Bool, true, false, cond, length, take, drop, map, reverse, get_or, set, sym, ◌∙◌, ap, refl, arith, All, Some, eqb, ⊎_elim}
use Rattle.std.specs.List.{range_with_len}
use Rattle.std.proofs.lemmas.List.{same_lists, get_or-take, get_or-drop, get_or_append_left, get_or-append_right, get_or-set_same, get_or-set_other, length-set, length-append, length-take-le, length-drop, reverse-append, reverse-reverse, append-nil, get_or_default}
use Rattle.std.proofs.lemmas.List.FromFn.{length-map-range_with_len, get_or-map-range_with_len}
use Rattle.std.proofs.lemmas.Bool.{cases_lt, cases_eq, cond-true, cond-false, eq-eqb, ne_eqb}
use Rattle.sample_tables.specs.declared.samples.Sample.{Sample}
use Rattle.flame_layout.specs.declared.boxes.SpanBox.{SpanBox}
use Rattle.merged_stacks.specs.Timeline.{Stack, total_weight}
use Rattle.flame_layout.specs.Chart.{names_shared, box_name, run_at, own_weight, box_at, boxes_from, boxes_after, chart_of}
use Rattle.flame_layout.specs.checked.Walk.{Run, run_of, runs_at_front, boxes_behind, box_of_run, boxes_of_runs, new_run, names_of, shared_runs_of, IsWalk}
use Rattle.flame_layout.proofs.Shared.{IsAlike, alike_from_shared}
use Rattle.merged_stacks.proofs.Timelines.{total_weight-cons}
use Rattle.flame_layout.proofs.Runs.{own_of_one, own_weight-cons, run_at-alike, run_at-apart, run_at-same, names_shared-self}
use Rattle.flame_layout.proofs.WalkSteps.{boxes_of_runs-length, boxes_of_runs-at, names_of-length, names_of-at}

-- the runs that go on under a sample: those of its first `keep` depths
pub record GoOn (keep : ℕ) (stack : Stack) (start : ℕ) (runs : List Run) (rest : List Sample) : Type 0 where
  pub deep : keep ≤ length stack + 1
  pub there : keep ≤ length runs
  pub same : (k : ℕ) (d : Run) → k < keep → get_or runs k d ≡ run_of stack start rest k
  pub others : (k : ℕ) → keep ≤ k → run_at k stack rest ≡ []

pub box_name-alike : (k : ℕ) (a b : Stack) → IsAlike k a b → box_name k a ≡ box_name k b
box_name-alike zero a b h = refl
box_name-alike (suc k) a b h =
    sym (get_or-take (suc k) a k [] (omega arith)) ∙ (ap (λ s. get_or s k []) h.same ∙ get_or-take (suc k) b k [] (omega arith))

run_of-same : (k start : ℕ) (a b : Stack) (rest : List Sample) → IsAlike k a b → run_of a start rest k ≡ run_of b start rest k
run_of-same k start a b rest h =
    let runs = run_at-same k a b rest h in
    λ i. record { name = box_name-alike k a b h i; end = start + total_weight (runs i); own = own_weight k (runs i) }

pub runs_at_front-length : (start : ℕ) (s : Sample) (rest : List Sample) → length (runs_at_front start (s ∷ rest)) ≡ length s.stack + 1
runs_at_front-length start s rest = length-map-range_with_len (run_of s.stack start (s ∷ rest)) 0 (length s.stack + 1)

pub runs_at_front-at : (start : ℕ) (s : Sample) (rest : List Sample) (k : ℕ) (d : Run) → k < length s.stack + 1 → get_or (runs_at_front start (s ∷ rest)) k d ≡ run_of s.stack start (s ∷ rest) k
runs_at_front-at start s rest k d h = get_or-map-range_with_len (run_of s.stack start (s ∷ rest)) 0 (length s.stack + 1) k k d h (omega arith)

pub go_on_none : (start : ℕ) (p : Sample) → GoOn 0 p.stack start [] []
go_on_none start p = record { deep = omega arith; there = omega arith; same = λ k d h. absurd (omega (arith, h)); others = λ k h. take_none k p.stack }
  where
    take_none : (k : ℕ) (stack : Stack) → run_at k stack [] ≡ []
    take_none k stack = refl

pub go_on_some : (start : ℕ) (p s : Sample) (rest : List Sample) → GoOn (names_shared p.stack s.stack + 1) p.stack start (runs_at_front start (s ∷ rest)) (s ∷ rest)
go_on_some start p s rest =
    let c = names_shared p.stack s.stack in
    let most : IsAlike c p.stack s.stack = alike_from_shared p.stack s.stack c (omega arith) in
    let long : length (runs_at_front start (s ∷ rest)) ≡ length s.stack + 1 = runs_at_front-length start s rest in
    record {
      deep = omega (arith, most.left);
      there = omega (arith, most.right, long);
      same = λ k d h. runs_at_front-at start s rest k d (omega (arith, most.right, h)) ∙ sym (run_of-same k start p.stack s.stack (s ∷ rest) (alike_from_shared p.stack s.stack k (omega (arith, h))));
      others = λ k h. run_at-apart k p.stack s rest (omega (arith, h));
    }

abbrev add_own : ℕ → Run → Run
add_own weight run = record run { own = run.own + weight }

-- the runs after the walk took the sample in front
abbrev pub after_entry : ℕ → ℕ → Sample → List Run → List Run
after_entry keep start p runs = take keep runs ++ map (new_run p.stack start) (range_with_len keep (length p.stack + 1 - keep))

-- what the sample's run is at a depth, by the run behind it
entered : (k start before : ℕ) (p : Sample) (rest : List Sample) → before + p.weight ≡ start → k ≤ length p.stack →
    run_of p.stack before (p ∷ rest) k ≡ (let r : Run = record { name = box_name k p.stack; end = start + total_weight (run_at k p.stack rest); own = own_weight k (run_at k p.stack rest) + own_of_one k p } in r)
entered k start before p rest e h =
    let run : run_at k p.stack (p ∷ rest) ≡ p ∷ run_at k p.stack rest = run_at-alike k p.stack p rest (names_shared-self k p.stack h) in
    let weight : before + total_weight (run_at k p.stack (p ∷ rest)) ≡ start + total_weight (run_at k p.stack rest) =
    ap (λ xs. before + total_weight xs) run ∙ omega (arith, e, total_weight-cons p (run_at k p.stack rest)) in
    let own : own_weight k (run_at k p.stack (p ∷ rest)) ≡ own_weight k (run_at k p.stack rest) + own_of_one k p =
    ap (own_weight k) run ∙ omega (arith, own_weight-cons k p (run_at k p.stack rest)) in
    λ i. record { name = box_name k p.stack; end = weight i; own = own i }

after_entry-length : (keep start : ℕ) (p : Sample) (rest : List Sample) (runs : List Run) → GoOn keep p.stack start runs rest → length (after_entry keep start p runs) ≡ length p.stack + 1
after_entry-length keep start p rest runs h =
    let front : length (take keep runs) ≡ keep = length-take-le keep runs h.there in
    let back : length (map (new_run p.stack start) (range_with_len keep (length p.stack + 1 - keep))) ≡ length p.stack + 1 - keep = length-map-range_with_len (new_run p.stack start) keep (length p.stack + 1 - keep) in
    length-append (take keep runs) _ ∙ omega (arith, front, back, h.deep)

-- before its weight is added
abbrev run_behind : ℕ → ℕ → Sample → List Sample → Run
run_behind k start p rest = record { name = box_name k p.stack; end = start + total_weight (run_at k p.stack rest); own = own_weight k (run_at k p.stack rest) }

after_entry-at : (keep start : ℕ) (p : Sample) (rest : List Sample) (runs : List Run) (k : ℕ) (d : Run) → GoOn keep p.stack start runs rest → k ≤ length p.stack →
    get_or (after_entry keep start p runs) k d ≡ run_behind k start p rest
after_entry-at keep start p rest runs k d h deep =
    let n = length p.stack + 1 - keep in
    let news = map (new_run p.stack start) (range_with_len keep n) in
    let long : length (take keep runs) ≡ keep = length-take-le keep runs h.there in
    ⊎_elim
    (λ lt. get_or_append_left (take keep runs) news d k (omega (arith, lt, long)) ∙ (get_or-take keep runs k d lt ∙ h.same k d lt))
    (λ le.
    let none : run_at k p.stack rest ≡ [] = h.others k le in
    let new : new_run p.stack start k ≡ run_behind k start p rest =
    λ i. record { name = box_name k p.stack; end = fresh_end none i; own = own_weight k (sym none i) } in
    get_or-append_right (take keep runs) news keep k d long le ∙ (get_or-map-range_with_len (new_run p.stack start) keep n (k - keep) k d (omega (arith, le, deep)) (omega (arith, le)) ∙ new))
    (cases_lt k keep)
  where
    fresh_end : run_at k p.stack rest ≡ [] → start ≡ start + total_weight (run_at k p.stack rest)
    fresh_end none = omega (arith, ap total_weight none)

pub own_of_one-deep : (p : Sample) (k : ℕ) → k ≡ length p.stack → own_of_one k p ≡ p.weight
own_of_one-deep p k e = cond-true _ p.weight 0 (eq-eqb (length p.stack) k (sym e))

pub own_of_one-shallow : (p : Sample) (k : ℕ) → (k ≡ length p.stack → ⊥) → own_of_one k p ≡ 0
own_of_one-shallow p k e = cond-false _ p.weight 0 (ne_eqb (length p.stack) k (λ h. e (sym h)))

-- with the sample's weight at its last frame these are the runs at its front
pub entry_runs : (keep start before : ℕ) (p : Sample) (rest : List Sample) (runs : List Run) (r : Run) → GoOn keep p.stack start runs rest → before + p.weight ≡ start →
    ((d : Run) → get_or (after_entry keep start p runs) (length p.stack) d ≡ r) →
    set (after_entry keep start p runs) (length p.stack) (add_own p.weight r) ≡ runs_at_front before (p ∷ rest)
entry_runs keep start before p rest runs r h e is =
    same_lists _ _ long each
  where
    m : ℕ
    m = length p.stack

    entry : List Run
    entry = after_entry keep start p runs

    long : length (set (after_entry keep start p runs) (length p.stack) (add_own p.weight r)) ≡ length (runs_at_front before (p ∷ rest))
    long = length-set (after_entry keep start p runs) (length p.stack) (add_own p.weight r) ∙ (after_entry-length keep start p rest runs h ∙ sym (runs_at_front-length before p rest))

    last : (k : ℕ) (d : Run) → k ≡ length p.stack → get_or (set (after_entry keep start p runs) (length p.stack) (add_own p.weight r)) k d ≡ run_of p.stack before (p ∷ rest) k
    last k d eq =
        let read : r ≡ run_behind k start p rest = sym (is d) ∙ (ap (λ j. get_or (after_entry keep start p runs) j d) (sym eq) ∙ after_entry-at keep start p rest runs k d h (omega (arith, eq))) in
        let added : add_own p.weight (run_behind k start p rest) ≡ run_of p.stack before (p ∷ rest) k =
        (λ i. record { name = box_name k p.stack; end = start + total_weight (run_at k p.stack rest); own = own_weight k (run_at k p.stack rest) + sym (own_of_one-deep p k eq) i }) ∙ sym (entered k start before p rest e (omega (arith, eq))) in
        ap (λ j. get_or (set (after_entry keep start p runs) (length p.stack) (add_own p.weight r)) j d) eq ∙
        (get_or-set_same (after_entry keep start p runs) (length p.stack) (add_own p.weight r) d (omega (arith, after_entry-length keep start p rest runs h)) ∙
        (ap (add_own p.weight) read ∙ added))

    other : (k : ℕ) (d : Run) → k < length p.stack + 1 → (k ≡ length p.stack → ⊥) → get_or (set (after_entry keep start p runs) (length p.stack) (add_own p.weight r)) k d ≡ run_of p.stack before (p ∷ rest) k
    other k d lt ne =
        let same : run_behind k start p rest ≡ run_of p.stack before (p ∷ rest) k =
        (λ i. record { name = box_name k p.stack; end = start + total_weight (run_at k p.stack rest); own = none_more i }) ∙ sym (entered k start before p rest e (omega (arith, lt))) in
        get_or-set_other (after_entry keep start p runs) (length p.stack) k (add_own p.weight r) d ne ∙
        (after_entry-at keep start p rest runs k d h (omega (arith, lt)) ∙ same)
      where
        none_more : own_weight k (run_at k p.stack rest) ≡ own_weight k (run_at k p.stack rest) + own_of_one k p
        none_more = omega (arith, own_of_one-shallow p k ne)

    each : (k : ℕ) (d : Run) → k < length (set (after_entry keep start p runs) (length p.stack) (add_own p.weight r)) → get_or (set (after_entry keep start p runs) (length p.stack) (add_own p.weight r)) k d ≡ get_or (runs_at_front before (p ∷ rest)) k d
    each k d lt =
        let within : k < length p.stack + 1 = omega (arith, lt, long, runs_at_front-length before p rest) in
        (⊎_elim (last k d) (other k d within) (cases_eq k (length p.stack))) ∙ sym (runs_at_front-at before p rest k d within)

-- ---- the boxes

box_of_run-of : (k start : ℕ) (stack : Stack) (xs : List Sample) → box_of_run start (k, run_of stack start xs k) ≡ box_at stack start xs k
box_of_run-of k start stack xs =
    let less : start + total_weight (run_at k stack xs) - start ≡ total_weight (run_at k stack xs) = omega arith in
    λ i. record { depth = k; name = box_name k stack; start = start; weight = less i; own = own_weight k (run_at k stack xs) }

-- the boxes of the runs at the front, from a depth on
pub front_boxes : (first start : ℕ) (s : Sample) (rest : List Sample) → first ≤ length s.stack + 1 →
    drop first (boxes_of_runs start (runs_at_front start (s ∷ rest))) ≡ boxes_from first s.stack start (s ∷ rest)
front_boxes first start s rest le = same_lists _ _ long each
  where
    whole : length (boxes_of_runs start (runs_at_front start (s ∷ rest))) ≡ length s.stack + 1
    whole = boxes_of_runs-length start (runs_at_front start (s ∷ rest)) ∙ runs_at_front-length start s rest

    right : length (boxes_from first s.stack start (s ∷ rest)) ≡ length s.stack + 1 - first
    right = length-map-range_with_len (box_at s.stack start (s ∷ rest)) first (length s.stack + 1 - first)

    left : length (drop first (boxes_of_runs start (runs_at_front start (s ∷ rest)))) ≡ length s.stack + 1 - first
    left = length-drop first (boxes_of_runs start (runs_at_front start (s ∷ rest))) ∙ ap (λ n. n - first) whole

    long : length (drop first (boxes_of_runs start (runs_at_front start (s ∷ rest)))) ≡ length (boxes_from first s.stack start (s ∷ rest))
    long = left ∙ sym right

    each : (k : ℕ) (d : SpanBox) → k < length (drop first (boxes_of_runs start (runs_at_front start (s ∷ rest)))) → get_or (drop first (boxes_of_runs start (runs_at_front start (s ∷ rest)))) k d ≡ get_or (boxes_from first s.stack start (s ∷ rest)) k d
    each k d lt =
        let r = run_of s.stack start (s ∷ rest) (first + k) in
        let within : first + k < length s.stack + 1 = omega (arith, left, lt) in
        get_or-drop first (boxes_of_runs start (runs_at_front start (s ∷ rest))) k d ∙
        (boxes_of_runs-at start (runs_at_front start (s ∷ rest)) (first + k) r d (omega (arith, within, runs_at_front-length start s rest)) ∙
        (ap (λ run. box_of_run start (first + k, run)) (runs_at_front-at start s rest (first + k) r within) ∙
        (box_of_run-of (first + k) start s.stack (s ∷ rest) ∙
        sym (get_or-map-range_with_len (box_at s.stack start (s ∷ rest)) first (length s.stack + 1 - first) k (first + k) d (omega (arith, left, lt)) refl))))

-- what the walk has closed once a sample is in front
pub entry_boxes_some : (start : ℕ) (p s : Sample) (rest : List Sample) →
    reverse (boxes_behind start (s ∷ rest)) ++ reverse (drop (names_shared p.stack s.stack + 1) (boxes_of_runs start (runs_at_front start (s ∷ rest)))) ≡ reverse (boxes_after (Some p.stack) start (s ∷ rest))
entry_boxes_some start p s rest =
    let c = names_shared p.stack s.stack in
    let most : IsAlike c p.stack s.stack = alike_from_shared p.stack s.stack c (omega arith) in
    ap (λ bs. reverse (boxes_behind start (s ∷ rest)) ++ reverse bs) (front_boxes (c + 1) start s rest (omega (arith, most.right))) ∙
    sym (reverse-append (boxes_from (c + 1) s.stack start (s ∷ rest)) (boxes_behind start (s ∷ rest)))

-- at the end all runs are closed
pub chart_boxes_some : (s : Sample) (rest : List Sample) →
    reverse (reverse (boxes_behind 0 (s ∷ rest)) ++ reverse (drop 0 (boxes_of_runs 0 (runs_at_front 0 (s ∷ rest))))) ≡ chart_of (s ∷ rest)
chart_boxes_some s rest =
    ap (λ bs. reverse (reverse (boxes_behind 0 (s ∷ rest)) ++ reverse bs)) (front_boxes 0 0 s rest (omega arith)) ∙
    (ap reverse (sym (reverse-append (boxes_from 0 s.stack 0 (s ∷ rest)) (boxes_behind 0 (s ∷ rest)))) ∙ reverse-reverse (chart_of (s ∷ rest)))

-- ---- the state of the walk

pub own_weight-le : (k : ℕ) (xs : List Sample) → own_weight k xs ≤ total_weight xs
own_weight-le k [] = omega arith
own_weight-le k (s ∷ xs) = omega (arith, own_weight-cons k s xs, total_weight-cons s xs, own_weight-le k xs, own_of_one-le k s)
  where
    own_of_one-le : (k : ℕ) (s : Sample) → own_of_one k s ≤ s.weight
    own_of_one-le k s = by (eqb (length s.stack) k)
      where
        by : (b : Bool) → cond b s.weight 0 ≤ s.weight
        by true = omega arith
        by false = omega arith

pub walk-length : (start : ℕ) (runs : List Run) (boxes : List SpanBox) (s : Sample) (rest : List Sample) → IsWalk start runs boxes (s ∷ rest) → length runs ≡ length s.stack + 1
walk-length start runs boxes s rest w = ap length w.going ∙ runs_at_front-length start s rest

walk-at : (start : ℕ) (runs : List Run) (boxes : List SpanBox) (s : Sample) (rest : List Sample) (k : ℕ) (d : Run) → IsWalk start runs boxes (s ∷ rest) → k < length s.stack + 1 → get_or runs k d ≡ run_of s.stack start (s ∷ rest) k
walk-at start runs boxes s rest k d w h = ap (λ xs. get_or xs k d) w.going ∙ runs_at_front-at start s rest k d h

-- the runs' names are the stack at the front
pub walk-names : (start : ℕ) (runs : List Run) (boxes : List SpanBox) (s : Sample) (rest : List Sample) → IsWalk start runs boxes (s ∷ rest) → names_of runs ≡ s.stack
walk-names start [] boxes s rest w = absurd (omega (arith, walk-length start [] boxes s rest w))
walk-names start (r ∷ rs) boxes s rest w = same_lists _ _ long each
  where
    whole : length (r ∷ rs) ≡ length s.stack + 1
    whole = walk-length start (r ∷ rs) boxes s rest w

    long : length (names_of (r ∷ rs)) ≡ length s.stack
    long = names_of-length (r ∷ rs) ∙ omega (arith, whole)

    each : (k : ℕ) (d : List ℕ) → k < length (names_of (r ∷ rs)) → get_or (names_of (r ∷ rs)) k d ≡ get_or s.stack k d
    each k d lt =
        let within : k < length s.stack = omega (arith, lt, long) in
        get_or_default (names_of (r ∷ rs)) k d [] lt ∙
        (names_of-at (r ∷ rs) k r (omega (arith, whole, within)) ∙
        (ap (λ run. run.name) (walk-at start (r ∷ rs) boxes s rest (k + 1) r w (omega (arith, within))) ∙
        (rw (add-one k) refl ∙ get_or_default s.stack k [] d within)))

pub walk-goes_on : (start : ℕ) (runs : List Run) (boxes : List SpanBox) (samples : List Sample) (p : Sample) → IsWalk start runs boxes samples → GoOn (shared_runs_of p.stack runs) p.stack start runs samples
walk-goes_on start [] boxes [] p w = go_on_none start p
walk-goes_on start (r ∷ rs) boxes [] p w = absurd (cc w.going)
walk-goes_on start [] boxes (s ∷ rest) p w = absurd (omega (arith, walk-length start [] boxes s rest w))
walk-goes_on start (r ∷ rs) boxes (s ∷ rest) p w =
    let keep : shared_runs_of p.stack (r ∷ rs) ≡ names_shared p.stack s.stack + 1 = ap (λ names. names_shared p.stack names + 1) (walk-names start (r ∷ rs) boxes s rest w) in
    rw (keep, w.going) (go_on_some start p s rest)

pub walk-begun : (start : ℕ) (runs : List Run) (boxes : List SpanBox) (samples : List Sample) → IsWalk start runs boxes samples → All (λ run. start ≤ run.end) runs
walk-begun start runs boxes [] w = λ k d h. absurd (omega (arith, h, ap length w.going))
walk-begun start runs boxes (s ∷ rest) w = λ k d h.
    let at = walk-at start runs boxes s rest k d w (omega (arith, h, walk-length start runs boxes s rest w)) in
    omega (arith, ap (λ (run : Run). run.end) at)

-- the boxes after the entry
pub walk-closes : (start before : ℕ) (runs : List Run) (boxes : List SpanBox) (samples : List Sample) (p : Sample) → before + p.weight ≡ start → IsWalk start runs boxes samples →
    boxes ++ reverse (drop (shared_runs_of p.stack runs) (boxes_of_runs start runs)) ≡ reverse (boxes_behind before (p ∷ samples))
walk-closes start before [] boxes [] p e w = append-nil boxes ∙ w.closed
walk-closes start before (r ∷ rs) boxes [] p e w = absurd (cc w.going)
walk-closes start before [] boxes (s ∷ rest) p e w = absurd (omega (arith, walk-length start [] boxes s rest w))
walk-closes start before (r ∷ rs) boxes (s ∷ rest) p e w =
    let keep : shared_runs_of p.stack (r ∷ rs) ≡ names_shared p.stack s.stack + 1 = ap (λ names. names_shared p.stack names + 1) (walk-names start (r ∷ rs) boxes s rest w) in
    (λ i. w.closed i ++ reverse (drop (keep i) (boxes_of_runs start (w.going i)))) ∙
    (entry_boxes_some start p s rest ∙ ap (λ n. reverse (boxes_after (Some p.stack) n (s ∷ rest))) (sym e))

-- what the walk is after the entry: `two` are the runs that were kept and the new ones, r the deepest
pub walk-enters : (start before : ℕ) (runs two : List Run) (r : Run) (boxes all : List SpanBox) (samples : List Sample) (p : Sample) →
    length p.stack ≤ 4096 → before + p.weight ≡ start → IsWalk start runs boxes samples →
    two ≡ take (shared_runs_of p.stack runs) runs ++ map (new_run p.stack start) (range_with_len (shared_runs_of p.stack runs) (length p.stack + 1 - shared_runs_of p.stack runs)) →
    ((d : Run) → get_or two (length p.stack) d ≡ r) →
    all ≡ boxes ++ reverse (drop (shared_runs_of p.stack runs) (boxes_of_runs start runs)) →
    IsWalk before (set two (length p.stack) (record r { own = r.own + p.weight })) all (p ∷ samples)
walk-enters start before runs two r boxes all samples p few e w is last closed = record {
  going = ap (λ xs. set xs (length p.stack) (add_own p.weight r)) is ∙
      entry_runs keep start before p samples runs r goes e (λ d. ap (λ xs. get_or xs (length p.stack) d) (sym is) ∙ last d);
  closed = closed ∙ walk-closes start before runs boxes samples p e w;
  few = omega (arith, long, length-set two (length p.stack) (record r { own = r.own + p.weight }));
}
  where
    keep : ℕ
    keep = shared_runs_of p.stack runs

    goes : GoOn (shared_runs_of p.stack runs) p.stack start runs samples
    goes = walk-goes_on start runs boxes samples p w

    long : length two ≡ length p.stack + 1
    long = ap length is ∙ after_entry-length (shared_runs_of p.stack runs) start p samples runs goes

-- one run for each depth
pub walk-length-after : (start : ℕ) (runs two : List Run) (boxes : List SpanBox) (samples : List Sample) (p : Sample) → IsWalk start runs boxes samples →
    two ≡ take (shared_runs_of p.stack runs) runs ++ map (new_run p.stack start) (range_with_len (shared_runs_of p.stack runs) (length p.stack + 1 - shared_runs_of p.stack runs)) →
    length two ≡ length p.stack + 1
walk-length-after start runs two boxes samples p w is =
    ap length is ∙ after_entry-length (shared_runs_of p.stack runs) start p samples runs (walk-goes_on start runs boxes samples p w)

-- the deepest run, before the sample's weight is added to its own
pub walk-room : (start : ℕ) (runs two : List Run) (r : Run) (boxes : List SpanBox) (samples : List Sample) (p : Sample) → IsWalk start runs boxes samples →
    two ≡ take (shared_runs_of p.stack runs) runs ++ map (new_run p.stack start) (range_with_len (shared_runs_of p.stack runs) (length p.stack + 1 - shared_runs_of p.stack runs)) →
    get_or two (length p.stack) r ≡ r → r.own + start ≤ r.end
walk-room start runs two r boxes samples p w is last = room
  where
    goes : GoOn (shared_runs_of p.stack runs) p.stack start runs samples
    goes = walk-goes_on start runs boxes samples p w

    long : length two ≡ length p.stack + 1
    long = walk-length-after start runs two boxes samples p w is

    behind : r ≡ run_behind (length p.stack) start p samples
    behind = sym last ∙ (ap (λ xs. get_or xs (length p.stack) r) is ∙ after_entry-at (shared_runs_of p.stack runs) start p samples runs (length p.stack) r goes (omega arith))

    room : r.own + start ≤ r.end
    room = omega (arith, ap (λ (run : Run). run.end) behind, ap (λ (run : Run). run.own) behind, own_weight-le (length p.stack) (run_at (length p.stack) p.stack samples))

-- what is left to close at the end, and the chart
pub walk-ends : (runs : List Run) (boxes all : List SpanBox) (samples : List Sample) → IsWalk 0 runs boxes samples → all ≡ boxes ++ reverse (drop 0 (boxes_of_runs 0 runs)) → reverse all ≡ chart_of samples
walk-ends runs boxes all [] w e =
    ap reverse (e ∙ (λ i. w.closed i ++ reverse (drop 0 (boxes_of_runs 0 (w.going i)))))
walk-ends runs boxes all (s ∷ rest) w e = ap reverse (e ∙ (λ i. w.closed i ++ reverse (drop 0 (boxes_of_runs 0 (w.going i))))) ∙ chart_boxes_some s rest

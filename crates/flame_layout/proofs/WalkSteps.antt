-- the steps of the walk's loops
use Rattle.std.proofs.Common.{add-one, ◌≡◌, ℕ, ◌+◌, ◌-◌, ◌≤◌, ◌<◌, List, [], ◌∷◌, ◌++◌, false, length, take, drop, reverse, get_or, sym, ◌∙◌, ap, refl, arith, ⊎_elim}
use Rattle.std.specs.Str.{bytes_eq}
use Rattle.std.specs.List.{enumerate_from}
use Rattle.std.proofs.lemmas.Bool.{cases_lt}
use Rattle.std.proofs.lemmas.Slice.Eq.{bytes_eq-Decides}
use Rattle.std.proofs.lemmas.List.Sums.{common_prefix_len-drop_yes, common_prefix_len-drop_no}
use Rattle.std.proofs.lemmas.List.{get_or_at, get_or-take, get_or-map, length_push, take-take, take_at, drop_more, drop_all, length-map, length-drop, reverse-append}
use Rattle.std.proofs.lemmas.List.FromFn.{length-enumerate_from, get_or-enumerate_from}
use Rattle.sample_tables.specs.declared.samples.TheConstants.{FRAME_LIMIT}
use Rattle.merged_stacks.specs.Timeline.{Stack}
use Rattle.flame_layout.specs.Chart.{names_shared}
use Rattle.flame_layout.specs.checked.ChartWalks.{BeginAlike}
use Rattle.flame_layout.specs.checked.Walk.{Run, names_of, shared_runs_of, box_of_run, boxes_of_runs}
use Rattle.flame_layout.specs.declared.boxes.SpanBox.{SpanBox}

shared_more : (a b : Stack) (i : ℕ) → i < length a → i < length b → get_or a i [] ≡ get_or b i [] → names_shared (drop i a) (drop i b) ≡ 1 + names_shared (drop (i + 1) a) (drop (i + 1) b)
shared_more a b i ha hb e = common_prefix_len-drop_yes bytes_eq a b i [] [] ha hb ((bytes_eq-Decides _ _).1 e)

shared_stops : (a b : Stack) (i : ℕ) → i < length a → i < length b → bytes_eq (get_or a i []) (get_or b i []) ≡ false → names_shared (drop i a) (drop i b) ≡ 0
shared_stops a b i ha hb e = common_prefix_len-drop_no bytes_eq a b i [] [] ha hb e

shared_nil : (a : Stack) → names_shared a [] ≡ 0
shared_nil [] = refl
shared_nil (x ∷ xs) = refl

shared_ends_left : (a b : Stack) (i : ℕ) → length a ≤ i → names_shared (drop i a) (drop i b) ≡ 0
shared_ends_left a b i h = rw (drop_all i a h) refl

shared_ends_right : (a b : Stack) (i : ℕ) → length b ≤ i → names_shared (drop i a) (drop i b) ≡ 0
shared_ends_right a b i h = rw (drop_all i b h) (shared_nil (drop i a))

-- so many names are alike, and no more are looked at
abbrev pub AreAlikeSoFar : Stack → Stack → ℕ → Type 0
AreAlikeSoFar a b i = names_shared a b ≡ i + names_shared (drop i a) (drop i b)

pub alike_further : (a b : Stack) (i : ℕ) → AreAlikeSoFar a b i → i < length a → i < length b → get_or a i [] ≡ get_or b i [] → AreAlikeSoFar a b (i + 1)
alike_further a b i so_far ha hb e = omega (arith, so_far, shared_more a b i ha hb e)

pub alike_until : (a b : Stack) (i : ℕ) → AreAlikeSoFar a b i → i < length a → i < length b → length a ≤ FRAME_LIMIT → bytes_eq (get_or a i []) (get_or b i []) ≡ false → BeginAlike a b i
alike_until a b i so_far ha hb few e = record {
  is = omega (arith, so_far, shared_stops a b i ha hb e);
  deep = omega (arith, ha);
  wide = omega (arith, hb);
  small = omega (arith, ha, few);
}

pub alike_to_the_end : (a b : Stack) (i count : ℕ) → AreAlikeSoFar a b i → count ≡ i → count ≤ length a → count ≤ length b → length a ≤ FRAME_LIMIT → (length a < length b → length a ≤ i) → (length b ≤ length a → length b ≤ i) → BeginAlike a b count
alike_to_the_end a b i count so_far all ha hb few left right = record {
  is = ⊎_elim (λ h. omega (arith, so_far, all, shared_ends_left a b i (left h))) (λ h. omega (arith, so_far, all, shared_ends_right a b i (right h))) (cases_lt (length a) (length b));
  deep = ha;
  wide = hb;
  small = omega (arith, ha, few);
}

pub names_of-length : (runs : List Run) → length (names_of runs) ≡ length runs - 1
names_of-length runs = length-map (drop 1 runs) (λ run. run.name) ∙ length-drop 1 runs

-- runs begin with the root's, which each sample shares
pub shared_runs-some : (stack : Stack) (runs : List Run) → 0 < length runs → shared_runs_of stack runs ≡ names_shared stack (names_of runs) + 1
shared_runs-some stack [] some = omega (arith, some)
shared_runs-some stack (run ∷ runs) some = refl

pub names_of-at : (runs : List Run) (i : ℕ) (d : Run) → i + 1 < length runs → get_or (names_of runs) i [] ≡ (get_or runs (i + 1) d).name
names_of-at [] i d h = absurd (omega arith)
names_of-at (x ∷ xs) i d h =
    get_or-map (λ run. run.name) xs i d [] (omega arith) ∙ (rw (add-one i) refl)

-- a run that is taken off the end of those that are left
pub popped_left : {A : Type 0} (all now new : List A) (r : A) → now ≡ take (length now) all → now ≡ new ++ r ∷ [] → new ≡ take (length new) all
popped_left all now new r e h =
    let longer : length now ≡ length new + 1 = ap length h ∙ length_push new r in
    let cut : take (length new) (take (length now) all) ≡ take (length new) all = take-take (length new) (length now) all (omega arith) in
    let front : take (length new) (new ++ r ∷ []) ≡ new = take_at new (r ∷ []) (length new) refl in
    sym front ∙ (ap (take (length new)) (sym h ∙ e) ∙ cut)

pub popped_run : {A : Type 0} (all now new : List A) (r d : A) → now ≡ take (length now) all → now ≡ new ++ r ∷ [] → get_or all (length new) d ≡ r
popped_run all now new r d e h =
    let longer : length now ≡ length new + 1 = ap length h ∙ length_push new r in
    let last : get_or (new ++ r ∷ []) (length new) d ≡ r = get_or_at new r [] d (length new) refl in
    let read : get_or (take (length now) all) (length new) d ≡ get_or all (length new) d = get_or-take (length now) all (length new) d (omega arith) in
    sym read ∙ (ap (λ xs. get_or xs (length new) d) (sym e ∙ h) ∙ last)

pub boxes_of_runs-length : (start : ℕ) (runs : List Run) → length (boxes_of_runs start runs) ≡ length runs
boxes_of_runs-length start runs = length-map (enumerate_from 0 runs) (box_of_run start) ∙ length-enumerate_from 0 runs

pub boxes_of_runs-at : (start : ℕ) (runs : List Run) (i : ℕ) (d : Run) (e : SpanBox) → i < length runs → get_or (boxes_of_runs start runs) i e ≡ box_of_run start (i, get_or runs i d)
boxes_of_runs-at start runs i d e h =
    let long : i < length (enumerate_from 0 runs) = omega (arith, length-enumerate_from 0 runs) in
    get_or-map (box_of_run start) (enumerate_from 0 runs) i (0, d) e long ∙ ap (box_of_run start) (get_or-enumerate_from 0 runs i (0, d) h ∙ ap (λ n. (n, get_or runs i d)) (omega arith))

-- the box of the deepest run comes behind those of the runs that were taken off before it
pub boxes_more : (start : ℕ) (all : List Run) (n m : ℕ) (r : Run) → m ≡ n + 1 → n < length all → ((d : Run) → get_or all n d ≡ r) →
    reverse (drop n (boxes_of_runs start all)) ≡ reverse (drop m (boxes_of_runs start all)) ++ box_of_run start (n, r) ∷ []
boxes_more start all n m r e h is =
    let boxes = boxes_of_runs start all in
    let b = box_of_run start (n, r) in
    let long : n < length (boxes_of_runs start all) = omega (arith, h, boxes_of_runs-length start all) in
    let read : get_or (boxes_of_runs start all) n b ≡ b = boxes_of_runs-at start all n r b h ∙ ap (λ s. box_of_run start (n, s)) (is r) in
    let first : drop n (boxes_of_runs start all) ≡ b ∷ drop m (boxes_of_runs start all) =
    drop_more (boxes_of_runs start all) n b long ∙ (λ i. read i ∷ drop (sym e i) (boxes_of_runs start all)) in
    ap reverse first ∙ reverse-append (b ∷ []) (drop m (boxes_of_runs start all))

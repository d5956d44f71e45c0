-- the boxes of an ascending timeline, path by path
use Rattle.std.proofs.Common.{◌≡◌, ℕ, zero, suc, ◌+◌, ◌-◌, ◌≤◌, ◌<◌, List, [], ◌∷◌, ◌++◌, Bool, true, false, cond, length, take, map, sum_by, sym, ◌∙◌, ap, subst, refl, arith, inl, ⊎_elim, Some, Decides}
use Rattle.std.specs.Str.{bytes_eq}
use Rattle.std.specs.List.{AllByRecursion, range_with_len}
use Rattle.std.specs.Cmp.Lexicographic.{pointwise}
use Rattle.std.proofs.lemmas.List.Sums.{sum_by-cons, sum_by-append}
use Rattle.std.proofs.lemmas.List.{length-take-le, take_all, take-take, append_assoc, map-append, get_or-take}
use Rattle.std.proofs.lemmas.Bool.{cases_lt, cases_eq, cond-true}
use Rattle.std.proofs.lemmas.Slice.Eq.{bytes_eq-Decides, slice_eq-Decides}
use Rattle.sample_tables.specs.declared.samples.Sample.{Sample}
use Rattle.flame_layout.specs.declared.boxes.SpanBox.{SpanBox}
use Rattle.merged_stacks.specs.Timeline.{Stack, total_weight}
use Rattle.flame_layout.specs.Chart.{names_shared, begins_alike, run_at, own_weight, box_name, box_at, boxes_from, boxes_after, chart_of}
use Rattle.flame_layout.specs.Paths.{paths_from, paths_after, paths_of, Visit, boxes_of_visits}
use Rattle.flame_layout.proofs.PathWords.{path_total, path_own, visit_of}
use Rattle.flame_layout.proofs.Shared.{IsAlike, IsAlike-refl, IsAlike-sym, IsAlike-trans, alike_from_shared, shared_from_alike, same_test}
use Rattle.flame_layout.proofs.Order.{Lt, Le, Le-trans, Lt-Le, Lt-irrefl, between_alike, front_Le, front_below}
use Rattle.flame_layout.proofs.Runs.{own_of_one, own_weight-cons, run_at-alike, run_at-apart}
use Rattle.flame_layout.proofs.Walked.{own_of_one-deep, own_of_one-shallow}
use Rattle.flame_layout.proofs.Ascending.{IsAbove, IsAscending, total_of_one, alike_total, one-alike, one-apart, run_total}

pub Decides-stack : (a b : Stack) → Decides (pointwise bytes_eq a b) (a ≡ b)
Decides-stack a b = slice_eq-Decides bytes_eq-Decides a b (pointwise bytes_eq a b) refl

-- what a sample gives to the own weight of a path
abbrev pub own_at_path : Stack → Sample → ℕ
own_at_path path s = cond (pointwise bytes_eq path s.stack) s.weight 0

pub own_at_path-same : (path : Stack) (s : Sample) → path ≡ s.stack → own_at_path path s ≡ s.weight
own_at_path-same path s e = cond-true _ s.weight 0 ((Decides-stack path s.stack).1 e)

pub own_at_path-other : (path : Stack) (s : Sample) → (path ≡ s.stack → ⊥) → own_at_path path s ≡ 0
own_at_path-other path s n = by (pointwise bytes_eq path s.stack) refl
  where
    by : (b : Bool) → pointwise bytes_eq path s.stack ≡ b → cond b s.weight 0 ≡ 0
    by true e = absurd (n ((Decides-stack path s.stack).0 e))
    by false e = refl

pub path_own-cons : (path : Stack) (s : Sample) (xs : List Sample) → path_own path (s ∷ xs) ≡ own_at_path path s + path_own path xs
path_own-cons path s xs = sum_by-cons (own_at_path path) s xs

-- what is a path's own is a part of its total
own_part : (path : Stack) (s : Sample) → own_at_path path s ≤ total_of_one (length path) path s
own_part path s = by (pointwise bytes_eq path s.stack) refl
  where
    by : (b : Bool) → pointwise bytes_eq path s.stack ≡ b → cond b s.weight 0 ≤ total_of_one (length path) path s
    by true e =
        let same : path ≡ s.stack = (Decides-stack path s.stack).0 e in
        omega (arith, one-alike (length path) path s (subst (λ p. IsAlike (length path) path p) same (IsAlike-refl (length path) path (omega arith))))
    by false e = omega arith

pub own-part : (path : Stack) (xs : List Sample) → path_own path xs ≤ path_total path xs
own-part path [] = omega arith
own-part path (s ∷ xs) = omega (arith, path_own-cons path s xs, sum_by-cons (total_of_one (length path) path) s xs, own_part path s, own-part path xs)

-- a front of a stack is alike with it
pub front-alike : (d : ℕ) (a : Stack) → d ≤ length a → IsAlike d (take d a) a
front-alike d a h = record { left = omega (arith, length-take-le d a h); right = h; same = take-take d d a (omega arith) }

pub path_total-front : (d : ℕ) (a : Stack) (xs : List Sample) → d ≤ length a → path_total (take d a) xs ≡ alike_total d a xs
path_total-front d a xs h =
    let long : length (take d a) ≡ d = length-take-le d a h in
    ap (λ n. sum_by (λ s. cond (begins_alike n (take d a) s) s.weight 0) xs) long ∙
    (λ i. sum_by (λ s. cond (same_test (take d a) a s.stack d (front-alike d a h) i) s.weight 0) xs)

-- a sample of the run that has exactly that many frames has the path as its stack
front-is : (d : ℕ) (a : Stack) (t : Sample) → IsAlike d a t.stack → length t.stack ≡ d → take d a ≡ t.stack
front-is d a t h e = h.same ∙ take_all d t.stack (omega arith)

front-long : (d : ℕ) (a : Stack) (t : Sample) → d ≤ length a → take d a ≡ t.stack → length t.stack ≡ d
front-long d a t h e = sym (ap length e) ∙ length-take-le d a h

front-begins : (d : ℕ) (a : Stack) (t : Sample) → d ≤ length a → take d a ≡ t.stack → IsAlike d a t.stack
front-begins d a t h e = subst (λ b. IsAlike d a b) e (IsAlike-sym (front-alike d a h))

own-one : (d : ℕ) (a : Stack) (t : Sample) → d ≤ length a → IsAlike d a t.stack → own_of_one d t ≡ own_at_path (take d a) t
own-one d a t h s =
    ⊎_elim
    (λ e. own_of_one-deep t d (sym e) ∙ sym (own_at_path-same (take d a) t (front-is d a t s e)))
    (λ n. own_of_one-shallow t d (λ e. n (sym e)) ∙ sym (own_at_path-other (take d a) t (λ e. n (front-long d a t h e))))
    (cases_eq (length t.stack) d)

own_apart : (d : ℕ) (a : Stack) (t : Sample) (xs : List Sample) → d ≤ length a → Le a t.stack → IsAbove t.stack xs → (IsAlike d a t.stack → ⊥) → path_own (take d a) xs ≡ 0
own_apart d a t [] h le g n = refl
own_apart d a t (u ∷ us) h le g n =
    let none : own_at_path (take d a) u ≡ 0 = own_at_path-other (take d a) u (λ e. n (between_alike d a t.stack u.stack le g.0 (front-begins d a u h e))) in
    omega (arith, path_own-cons (take d a) u us, none, own_apart d a t us h le g.1 n)

pub run_own : (d : ℕ) (a : Stack) (xs : List Sample) → d ≤ length a → IsAbove a xs → IsAscending xs → own_weight d (run_at d a xs) ≡ path_own (take d a) xs
run_own d a [] l h g = refl
run_own d a (t ∷ ts) l h g =
    ⊎_elim
    (λ lt.
    let none : run_at d a (t ∷ ts) ≡ [] = run_at-apart d a t ts lt in
    let apart : IsAlike d a t.stack → ⊥ = λ s. omega (arith, lt, shared_from_alike a t.stack d s) in
    let other : own_at_path (take d a) t ≡ 0 = own_at_path-other (take d a) t (λ e. apart (front-begins d a t l e)) in
    ap (own_weight d) none ∙ omega (arith, path_own-cons (take d a) t ts, other, own_apart d a t ts l h.0 g.0 apart))
    (λ le.
    ap (own_weight d) (run_at-alike d a t ts le) ∙
    omega (arith, own_weight-cons d t (run_at d a ts), path_own-cons (take d a) t ts, own-one d a t l (alike_from_shared a t.stack d le), run_own d a ts l h.1 g.1))
    (cases_lt (names_shared a t.stack) d)

-- ---- the samples before

-- those before, none above `stack`
abbrev pub IsBelow : Stack → List Sample → Type 0
IsBelow stack samples = AllByRecursion (λ t. Le t.stack stack) samples

-- none of them begins with the first `depth` names
abbrev pub NoneAlike : ℕ → Stack → List Sample → Type 0
NoneAlike depth a samples = AllByRecursion (λ t. IsAlike depth a t.stack → ⊥) samples

pub none-total : (d : ℕ) (a : Stack) (xs : List Sample) → NoneAlike d a xs → alike_total d a xs ≡ 0
none-total d a [] h = refl
none-total d a (t ∷ ts) h = omega (arith, sum_by-cons (total_of_one d a) t ts, one-apart d a t h.0, none-total d a ts h.1)

pub none-own : (d : ℕ) (a : Stack) (xs : List Sample) → d ≤ length a → NoneAlike d a xs → path_own (take d a) xs ≡ 0
none-own d a [] l h = refl
none-own d a (t ∷ ts) l h =
    omega (arith, path_own-cons (take d a) t ts, own_at_path-other (take d a) t (λ e. h.0 (front-begins d a t l e)), none-own d a ts l h.1)

pub below-none : (d : ℕ) (b a : Stack) (xs : List Sample) → Le b a → IsBelow b xs → names_shared b a < d → NoneAlike d a xs
below-none d b a [] le h lt = tt
below-none d b a (t ∷ ts) le h lt =
    ((λ s. omega (arith, lt, shared_from_alike b a d (IsAlike-sym (IsAlike-trans s (between_alike d t.stack b a h.0 le (IsAlike-sym s)))))), below-none d b a ts le h.1 lt)

-- own weights of a stack that stands below
pub own_above : (b : Stack) (xs : List Sample) (a : Stack) → Lt b a → IsAbove a xs → path_own b xs ≡ 0
own_above b [] a lt h = refl
own_above b (t ∷ ts) a lt h =
    omega (arith, path_own-cons b t ts, own_at_path-other b t (λ e. Lt-irrefl b (Lt-Le b a b lt (subst (λ x. Le a x) (sym e) h.0))), own_above b ts a lt h.1)

-- a box at a sample is that of the visit of its path
pub box_is : (d start : ℕ) (s : Sample) (before rest whole : List Sample) → whole ≡ before ++ (s ∷ rest) → d ≤ length s.stack → IsAscending (s ∷ rest) → NoneAlike d s.stack before →
    (total_weight (run_at d s.stack (s ∷ rest)) ≡ path_total (take d s.stack) whole) × (own_weight d (run_at d s.stack (s ∷ rest)) ≡ path_own (take d s.stack) whole)
box_is d start s before rest whole e l g n = (total, own)
  where
    above : IsAbove s.stack (s ∷ rest)
    above = (inl refl, g.0)

    total : total_weight (run_at d s.stack (s ∷ rest)) ≡ path_total (take d s.stack) whole
    total = run_total d s.stack (s ∷ rest) above g ∙ sym (ap (path_total (take d s.stack)) e ∙ (path_total-front d s.stack (before ++ (s ∷ rest)) l ∙
        (sum_by-append (total_of_one d s.stack) before (s ∷ rest) ∙ omega (arith, none-total d s.stack before n))))

    own : own_weight d (run_at d s.stack (s ∷ rest)) ≡ path_own (take d s.stack) whole
    own = run_own d s.stack (s ∷ rest) l above g ∙ sym (ap (path_own (take d s.stack)) e ∙
        (sum_by-append (own_at_path (take d s.stack)) before (s ∷ rest) ∙ omega (arith, none-own d s.stack before l n)))

abbrev visit_box : ℕ → Visit → SpanBox
visit_box start visit = record { depth = length visit.path; name = box_name (length visit.path) visit.path; start = start; weight = visit.total; own = visit.own }

pub box_name-front : (d : ℕ) (a : Stack) → box_name d (take d a) ≡ box_name d a
box_name-front zero a = refl
box_name-front (suc d) a = get_or-take (suc d) a d [] (omega arith)

pub box_of_visit : (d start : ℕ) (s : Sample) (before rest whole : List Sample) → whole ≡ before ++ (s ∷ rest) → d ≤ length s.stack → IsAscending (s ∷ rest) → NoneAlike d s.stack before →
    box_at s.stack start (s ∷ rest) d ≡ visit_box start (visit_of whole (take d s.stack))
box_of_visit d start s before rest whole e l g n =
    let sums = box_is d start s before rest whole e l g n in
    let long : length (take d s.stack) ≡ d = length-take-le d s.stack l in
    let name : box_name d s.stack ≡ box_name (length (take d s.stack)) (take d s.stack) = sym (box_name-front d s.stack) ∙ ap (λ k. box_name k (take d s.stack)) (sym long) in
    λ i. record { depth = sym long i; name = name i; start = start; weight = sums.0 i; own = sums.1 i }

-- a shorter front of the stack has no own weight
short_own : (d : ℕ) (s : Sample) (before rest whole : List Sample) → whole ≡ before ++ (s ∷ rest) → d < length s.stack → IsAscending (s ∷ rest) → NoneAlike d s.stack before →
    path_own (take d s.stack) whole ≡ 0
short_own d s before rest whole e l g n =
    let here : path_own (take d s.stack) (s ∷ rest) ≡ 0 = own_above (take d s.stack) (s ∷ rest) s.stack (front_below d s.stack l) (inl refl, g.0) in
    ap (path_own (take d s.stack)) e ∙ (sum_by-append (own_at_path (take d s.stack)) before (s ∷ rest) ∙ omega (arith, here, none-own d s.stack before (omega arith) n))

-- the whole stack's own weight stands at the front
whole_own : (s : Sample) (before rest whole : List Sample) → whole ≡ before ++ (s ∷ rest) → NoneAlike (length s.stack) s.stack before →
    path_own s.stack whole ≡ path_own s.stack (s ∷ rest)
whole_own s before rest whole e n =
    let full : take (length s.stack) s.stack ≡ s.stack = take_all (length s.stack) s.stack (omega arith) in
    let none : path_own s.stack before ≡ 0 = ap (λ p. path_own p before) (sym full) ∙ none-own (length s.stack) s.stack before (omega arith) n in
    ap (path_own s.stack) e ∙ (sum_by-append (own_at_path s.stack) before (s ∷ rest) ∙ omega (arith, none))

-- the boxes that begin at a sample, from a depth on
own_boxes : (m d start : ℕ) (s : Sample) (before rest whole : List Sample) (more : List Visit) → d + m ≡ length s.stack → whole ≡ before ++ (s ∷ rest) → IsAscending (s ∷ rest) →
    ((k : ℕ) → d ≤ k → NoneAlike k s.stack before) →
    map (box_at s.stack start (s ∷ rest)) (range_with_len d (suc m)) ++ boxes_of_visits (start + path_own s.stack (s ∷ rest)) more
    ≡ boxes_of_visits start (map (visit_of whole) (map (λ k. take k s.stack) (range_with_len d (suc m))) ++ more)
own_boxes zero d start s before rest whole more l e g n =
    let box = box_of_visit d start s before rest whole e (omega arith) g (n d (omega arith)) in
    let full : take d s.stack ≡ s.stack = take_all d s.stack (omega arith) in
    let own : path_own s.stack (s ∷ rest) ≡ path_own (take d s.stack) whole =
    sym (whole_own s before rest whole e (n (length s.stack) (omega arith))) ∙ ap (λ p. path_own p whole) (sym full) in
    λ i. box i ∷ boxes_of_visits (start + own i) more
own_boxes (suc m) d start s before rest whole more l e g n =
    let box = box_of_visit d start s before rest whole e (omega arith) g (n d (omega arith)) in
    let none : path_own (take d s.stack) whole ≡ 0 = short_own d s before rest whole e (omega arith) g (n d (omega arith)) in
    let tail = own_boxes m (d + 1) start s before rest whole more (omega arith) e g (λ k h. n k (omega arith)) in
    let same : start ≡ start + path_own (take d s.stack) whole = omega (arith, none) in
    (λ i. box i ∷ tail i) ∙
    ap (λ k. visit_box start (visit_of whole (take d s.stack)) ∷ boxes_of_visits k (map (visit_of whole) (map (λ j. take j s.stack) (range_with_len (d + 1) (suc m))) ++ more)) same

own_front : (b : Stack) (s : Sample) (rest : List Sample) → Le b s.stack → IsAbove s.stack rest → names_shared b s.stack < length s.stack → path_own b (s ∷ rest) ≡ 0
own_front b s rest le g lt =
    ⊎_elim
    (λ e. absurd (omega (arith, lt, shared_from_alike b s.stack (length s.stack) (subst (λ x. IsAlike (length s.stack) x s.stack) (sym e) (IsAlike-refl (length s.stack) s.stack (omega arith))))))
    (λ l. own_above b (s ∷ rest) s.stack l (inl refl, g))
    le

-- one whose names all are those of a stack that is not above it is the same
same_stack : (b a : Stack) → Le b a → IsAlike (length a) b a → b ≡ a
same_stack b a le h =
    ⊎_elim (λ e. e)
    (λ l.
    let front : take (length a) b ≡ a = h.same ∙ take_all (length a) a (omega arith) in
    let low : Le a b = subst (λ x. Le x b) front (front_Le (length a) b) in
    absurd (Lt-irrefl b (Lt-Le b a b l low)))
    le

below-push : (a : Stack) (xs : List Sample) (s : Sample) → IsBelow a xs → Le s.stack a → IsBelow a (xs ++ s ∷ [])
below-push a [] s h g = (g, tt)
below-push a (x ∷ xs) s h g = (h.0, below-push a xs s h.1 g)

below-higher : (a b : Stack) (xs : List Sample) → Le a b → IsBelow a xs → IsBelow b xs
below-higher a b [] le h = tt
below-higher a b (x ∷ xs) le h = (Le-trans x.stack a b h.0 le, below-higher a b xs le h.1)

-- at one sample more, by the boxes behind it
visits_step : (first start : ℕ) (s : Sample) (before rest whole : List Sample) (more : List Visit) → first ≤ length s.stack → whole ≡ before ++ (s ∷ rest) → IsAscending (s ∷ rest) →
    ((k : ℕ) → first ≤ k → NoneAlike k s.stack before) →
    boxes_after (Some s.stack) (start + s.weight) rest ≡ boxes_of_visits (start + s.weight + path_own s.stack rest) more →
    boxes_from first s.stack start (s ∷ rest) ++ boxes_after (Some s.stack) (start + s.weight) rest
    ≡ boxes_of_visits start (map (visit_of whole) (paths_from first s.stack) ++ more)
visits_step first start s before rest whole more le e g n ih =
    let m = length s.stack - first in
    let count : length s.stack + 1 - first ≡ suc m = omega arith in
    let own : start + s.weight + path_own s.stack rest ≡ start + path_own s.stack (s ∷ rest) =
    omega (arith, path_own-cons s.stack s rest, own_at_path-same s.stack s refl) in
    (λ i. map (box_at s.stack start (s ∷ rest)) (range_with_len first (count i)) ++ (ih ∙ ap (λ k. boxes_of_visits k more) own) i) ∙
    (own_boxes m first start s before rest whole more (omega arith) e g n ∙
    ap (λ k. boxes_of_visits start (map (visit_of whole) (map (λ j. take j s.stack) (range_with_len first k)) ++ more)) (sym count))

-- at one sample more whose stack is that of the one before it
visits_same : (first start : ℕ) (b : Stack) (s : Sample) (rest whole : List Sample) (more : List Visit) → length s.stack + 1 - first ≡ 0 → b ≡ s.stack →
    boxes_after (Some s.stack) (start + s.weight) rest ≡ boxes_of_visits (start + s.weight + path_own s.stack rest) more →
    boxes_from first s.stack start (s ∷ rest) ++ boxes_after (Some s.stack) (start + s.weight) rest
    ≡ boxes_of_visits (start + path_own b (s ∷ rest)) (map (visit_of whole) (paths_from first s.stack) ++ more)
visits_same first start b s rest whole more none e ih =
    let own : start + s.weight + path_own s.stack rest ≡ start + path_own b (s ∷ rest) =
    omega (arith, path_own-cons s.stack s rest, own_at_path-same s.stack s refl, ap (λ p. path_own p (s ∷ rest)) e) in
    (λ i. map (box_at s.stack start (s ∷ rest)) (range_with_len first (none i)) ++ (ih ∙ ap (λ k. boxes_of_visits k more) own) i) ∙
    ap (λ k. boxes_of_visits (start + path_own b (s ∷ rest)) (map (visit_of whole) (map (λ j. take j s.stack) (range_with_len first k)) ++ more)) (sym none)

-- the boxes behind a sample, as visits of the paths of the whole timeline
pub visits_after : (b : Stack) (before xs whole : List Sample) (start : ℕ) → whole ≡ before ++ xs → IsBelow b before → IsAbove b xs → IsAscending xs →
    boxes_after (Some b) start xs ≡ boxes_of_visits (start + path_own b xs) (map (visit_of whole) (paths_after (Some b) xs))
visits_after b before [] whole start e low h g = refl
visits_after b before (s ∷ rest) whole start e low h g =
    let first = names_shared b s.stack + 1 in
    let more = map (visit_of whole) (paths_after (Some s.stack) rest) in
    let next : whole ≡ (before ++ s ∷ []) ++ rest = e ∙ sym (append_assoc before (s ∷ []) rest) in
    let low_next : IsBelow s.stack (before ++ s ∷ []) = below-push s.stack before s (below-higher b s.stack before h.0 low) (inl refl) in
    let ih = visits_after s.stack (before ++ s ∷ []) rest whole (start + s.weight) next low_next g.0 g.1 in
    let alike : IsAlike (names_shared b s.stack) b s.stack = alike_from_shared b s.stack (names_shared b s.stack) (omega arith) in
    ⊎_elim
    (λ lt.
    let none : path_own b (s ∷ rest) ≡ 0 = own_front b s rest h.0 g.0 lt in
    visits_step first start s before rest whole more (omega (arith, lt)) e g (λ k le. below-none k b s.stack before h.0 low (omega (arith, le))) ih ∙
    (ap (λ k. boxes_of_visits k (map (visit_of whole) (paths_from first s.stack) ++ more)) (omega (arith, none)) ∙
    ap (boxes_of_visits (start + path_own b (s ∷ rest))) (sym (map-append (visit_of whole) (paths_from first s.stack) (paths_after (Some s.stack) rest)))))
    (λ le.
    let same : b ≡ s.stack = same_stack b s.stack h.0 (alike_from_shared b s.stack (length s.stack) le) in
    visits_same first start b s rest whole more (omega (arith, le)) same ih ∙
    ap (boxes_of_visits (start + path_own b (s ∷ rest))) (sym (map-append (visit_of whole) (paths_from first s.stack) (paths_after (Some s.stack) rest))))
    (cases_lt (names_shared b s.stack) (length s.stack))

-- the chart of an ascending timeline: a box for each path, with its sums, the starts counted by the own weights
pub ascending-visits : (xs : List Sample) → IsAscending xs → chart_of xs ≡ boxes_of_visits 0 (map (visit_of xs) (paths_of xs))
ascending-visits [] g = refl
ascending-visits (s ∷ rest) g =
    let more = map (visit_of (s ∷ rest)) (paths_after (Some s.stack) rest) in
    let ih = visits_after s.stack (s ∷ []) rest (s ∷ rest) (0 + s.weight) refl (inl refl, tt) g.0 g.1 in
    visits_step 0 0 s [] rest (s ∷ rest) more (omega arith) refl g (λ k le. tt) ih ∙
    ap (boxes_of_visits 0) (sym (map-append (visit_of (s ∷ rest)) (paths_from 0 s.stack) (paths_after (Some s.stack) rest)))

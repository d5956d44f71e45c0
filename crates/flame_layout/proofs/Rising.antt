-- the paths of an ascending timeline: strictly rising, and all that have weight
use Rattle.std.proofs.Common.{◌≡◌, ℕ, zero, suc, ◌+◌, ◌-◌, ◌≤◌, ◌<◌, List, [], ◌∷◌, ◌++◌, Bool, true, false, cond, length, take, map, filter, sym, ◌∙◌, ap, subst, refl, arith, ◌⊎◌, inl, inr, ⊎_elim, Some}
use Rattle.std.specs.List.{AllByRecursion, range_with_len}
use Rattle.std.proofs.lemmas.List.Sums.{sum_by-cons}
use Rattle.std.proofs.lemmas.List.{length-take-le, take_all, take-take}
use Rattle.std.proofs.lemmas.Bool.{cases_lt, cases_eq}
use Rattle.sample_tables.specs.declared.samples.Sample.{Sample}
use Rattle.merged_stacks.specs.Timeline.{Stack}
use Rattle.flame_layout.specs.Chart.{names_shared}
use Rattle.flame_layout.specs.Paths.{paths_from, paths_after, paths_of, IsRising}
use Rattle.flame_layout.proofs.PathWords.{path_total}
use Rattle.flame_layout.proofs.Shared.{IsAlike, IsAlike-refl, IsAlike-sym, IsAlike-trans, alike_from_shared, shared_from_alike}
use Rattle.flame_layout.proofs.Order.{Lt, Le, Lt-trans, Le-Lt, Lt-irrefl, between_alike, front_Le, front_below, compared}
use Rattle.flame_layout.proofs.Ascending.{IsAbove, IsAscending, IsPositive, each-weaker, total_of_one, one-alike, one-apart}
use Rattle.flame_layout.proofs.Visits.{front-alike, path_total-front}

-- the path stands in the list
abbrev pub Among : Stack → List Stack → Type 0
Among p [] = ⊥
Among p (q ∷ qs) = (p ≡ q) ⊎ Among p qs

pub among-left : (p : Stack) (xs ys : List Stack) → Among p xs → Among p (xs ++ ys)
among-left p [] ys h = absurd h
among-left p (x ∷ xs) ys h = ⊎_elim (λ e. inl e) (λ m. inr (among-left p xs ys m)) h

pub among-right : (p : Stack) (xs ys : List Stack) → Among p ys → Among p (xs ++ ys)
among-right p [] ys h = h
among-right p (x ∷ xs) ys h = inr (among-right p xs ys h)

pub each-among : (P : Stack → Type 0) (p : Stack) (xs : List Stack) → AllByRecursion P xs → Among p xs → P p
each-among P p [] h m = absurd m
each-among P p (x ∷ xs) h m = ⊎_elim (λ e. subst P (sym e) h.0) (λ n. each-among P p xs h.1 n) m

each-append : (P : Stack → Type 0) (xs ys : List Stack) → AllByRecursion P xs → AllByRecursion P ys → AllByRecursion P (xs ++ ys)
each-append P [] ys h g = g
each-append P (x ∷ xs) ys h g = (h.0, each-append P xs ys h.1 g)

-- two rising lists with the same paths are the same
pub same_rising : (xs ys : List Stack) → IsRising xs → IsRising ys → ((p : Stack) → Among p xs → Among p ys) → ((p : Stack) → Among p ys → Among p xs) → xs ≡ ys
same_rising [] [] r s f g = refl
same_rising [] (y ∷ ys) r s f g = absurd (g y (inl refl))
same_rising (x ∷ xs) [] r s f g = absurd (f x (inl refl))
same_rising (x ∷ xs) (y ∷ ys) r s f g = λ i. first i ∷ same_rising xs ys r.1 s.1 into back i
  where
    first : x ≡ y
    first = ⊎_elim
        (λ e. e)
        (λ m. ⊎_elim (λ e. sym e) (λ n. absurd (Lt-irrefl x (Lt-trans x y x (each-among (Lt x) y xs r.0 n) (each-among (Lt y) x ys s.0 m)))) (g y (inl refl)))
        (f x (inl refl))

    into : (p : Stack) → Among p xs → Among p ys
    into p m = ⊎_elim (λ e. absurd (Lt-irrefl x (subst (λ q. Lt x q) (e ∙ sym first) (each-among (Lt x) p xs r.0 m)))) (λ n. n) (f p (inr m))

    back : (p : Stack) → Among p ys → Among p xs
    back p m = ⊎_elim (λ e. absurd (Lt-irrefl y (subst (λ q. Lt y q) (e ∙ first) (each-among (Lt y) p ys s.0 m)))) (λ n. n) (g p (inr m))

-- ---- those that pass a test

pub each-filter : (P : Stack → Type 0) (t : Stack → Bool) (ps : List Stack) → AllByRecursion P ps → AllByRecursion P (filter t ps)
each-filter P t [] h = tt
each-filter P t (p ∷ ps) h = by (t p) (each-filter P t ps h.1)
  where
    by : (b : Bool) → AllByRecursion P (filter t ps) → AllByRecursion P (cond b (p ∷ filter t ps) (filter t ps))
    by true ih = (h.0, ih)
    by false ih = ih

pub filter-rise : (t : Stack → Bool) (ps : List Stack) → IsRising ps → IsRising (filter t ps)
filter-rise t [] h = tt
filter-rise t (p ∷ ps) h = by (t p) (filter-rise t ps h.1)
  where
    by : (b : Bool) → IsRising (filter t ps) → IsRising (cond b (p ∷ filter t ps) (filter t ps))
    by true ih = (each-filter (Lt p) t ps h.0, ih)
    by false ih = ih

pub among-filter : (t : Stack → Bool) (q : Stack) (ps : List Stack) → Among q ps → t q ≡ true → Among q (filter t ps)
among-filter t q [] m e = absurd m
among-filter t q (p ∷ ps) m e = by (t p) refl (λ n. among-filter t q ps n e) m
  where
    by : (b : Bool) → t p ≡ b → (Among q ps → Among q (filter t ps)) → Among q (p ∷ ps) → Among q (cond b (p ∷ filter t ps) (filter t ps))
    by true f ih n = ⊎_elim (λ s. inl s) (λ l. inr (ih l)) n
    by false f ih n = ⊎_elim (λ s. absurd (let g : true ≡ false = sym e ∙ (ap t s ∙ f) in cc)) ih n

pub passes-filter : (t : Stack → Bool) (q : Stack) (ps : List Stack) → Among q (filter t ps) → t q ≡ true
passes-filter t q [] m = absurd m
passes-filter t q (p ∷ ps) m = by (t p) refl (passes-filter t q ps) m
  where
    by : (b : Bool) → t p ≡ b → (Among q (filter t ps) → t q ≡ true) → Among q (cond b (p ∷ filter t ps) (filter t ps)) → t q ≡ true
    by true f ih n = ⊎_elim (λ s. ap t s ∙ f) ih n
    by false f ih n = ih n

-- ---- the fronts of one stack

front_front : (d e : ℕ) (a : Stack) → d < e → e ≤ length a → Lt (take d a) (take e a)
front_front d e a h l =
    let cut : take d (take e a) ≡ take d a = take-take d e a (omega arith) in
    subst (λ p. Lt p (take e a)) cut (front_below d (take e a) (omega (arith, length-take-le e a l)))

-- the fronts from a depth on rise, and stay below what is above the stack
fronts_above : (m d : ℕ) (p a : Stack) → d + m ≤ length a + 1 → ((k : ℕ) → d ≤ k → k ≤ length a → Lt p (take k a)) → AllByRecursion (Lt p) (map (λ k. take k a) (range_with_len d m))
fronts_above zero d p a l h = tt
fronts_above (suc m) d p a l h = (h d (omega arith) (omega arith), fronts_above m (d + 1) p a (omega arith) (λ k le. h k (omega arith)))

rising-fronts : (m d : ℕ) (a : Stack) (more : List Stack) → d + m ≤ length a + 1 → AllByRecursion (Lt a) more → IsRising more → IsRising (map (λ k. take k a) (range_with_len d m) ++ more)
rising-fronts zero d a more l h r = r
rising-fronts (suc m) d a more l h r = (
  each-append (Lt (take d a)) _ more (fronts_above m (d + 1) (take d a) a (omega arith) (λ k le lt. front_front d k a (omega arith) lt)) (each-weaker (Lt a) (Lt (take d a)) (λ q g. Le-Lt (take d a) a q (front_Le d a) g) more h),
  rising-fronts m (d + 1) a more (omega arith) h r,
)

-- a front that the stack before does not have is above it
new_front : (b a : Stack) (d : ℕ) → Le b a → names_shared b a < d → d ≤ length a → Lt b (take d a)
new_front b a d le lt l =
    ⊎_elim (λ h. h)
    (λ h. absurd (apart (⊎_elim (λ e. subst (λ x. IsAlike d x a) (sym e) (front-alike d a l)) (λ low. IsAlike-trans (IsAlike-sym (between_alike d (take d a) b a (inr low) le (front-alike d a l))) (front-alike d a l)) h)))
    (compared b (take d a))
  where
    apart : IsAlike d b a → ⊥
    apart s = omega (arith, lt, shared_from_alike b a d s)

pub paths_after-rise : (b : Stack) (xs : List Sample) → IsAbove b xs → IsAscending xs → AllByRecursion (Lt b) (paths_after (Some b) xs) × IsRising (paths_after (Some b) xs)
paths_after-rise b [] h g = (tt, tt)
paths_after-rise b (s ∷ rest) h g =
    let first = names_shared b s.stack + 1 in
    let n = length s.stack + 1 - first in
    let ih = paths_after-rise s.stack rest g.0 g.1 in
    let most : IsAlike (names_shared b s.stack) b s.stack = alike_from_shared b s.stack (names_shared b s.stack) (omega arith) in (
      each-append (Lt b) (paths_from first s.stack) (paths_after (Some s.stack) rest)
          (fronts_above n first b s.stack (omega (arith, most.right)) (λ k le l. new_front b s.stack k h.0 (omega (arith, le)) l))
          (each-weaker (Lt s.stack) (Lt b) (λ q lt. Le-Lt b s.stack q h.0 lt) (paths_after (Some s.stack) rest) ih.0),
      rising-fronts n first s.stack (paths_after (Some s.stack) rest) (omega (arith, most.right)) ih.0 ih.1,
    )

pub paths_of-rise : (xs : List Sample) → IsAscending xs → IsRising (paths_of xs)
paths_of-rise [] g = tt
paths_of-rise (s ∷ rest) g =
    let ih = paths_after-rise s.stack rest g.0 g.1 in
    rising-fronts (length s.stack + 1 - 0) 0 s.stack (paths_after (Some s.stack) rest) (omega arith) ih.0 ih.1

-- ---- which paths they are

among-fronts : (m d k : ℕ) (a : Stack) → d ≤ k → k < d + m → Among (take k a) (map (λ j. take j a) (range_with_len d m))
among-fronts zero d k a h l = absurd (omega arith)
among-fronts (suc m) d k a h l =
    ⊎_elim (λ e. inl (ap (λ j. take j a) (sym e))) (λ n. inr (among-fronts m (d + 1) k a (omega arith) (omega arith))) (cases_eq d k)

alike-front : (p : Stack) (s : Sample) → IsAlike (length p) p s.stack → take (length p) s.stack ≡ p
alike-front p s h = sym h.same ∙ take_all (length p) p (omega arith)

-- a path with weight behind a stack that does not begin with it
pub paths_after-all : (b p : Stack) (xs : List Sample) → (IsAlike (length p) p b → ⊥) → 0 < path_total p xs → Among p (paths_after (Some b) xs)
paths_after-all b p [] n h = absurd (omega arith)
paths_after-all b p (s ∷ rest) n h =
    let first = names_shared b s.stack + 1 in
    let count = length s.stack + 1 - first in
    ⊎_elim
    (λ lt.
    let apart : IsAlike (length p) p s.stack → ⊥ = λ a. omega (arith, lt, shared_from_alike p s.stack (length p) a) in
    let none : total_of_one (length p) p s ≡ 0 = one-apart (length p) p s apart in
    among-right p (paths_from first s.stack) (paths_after (Some s.stack) rest) (paths_after-all s.stack p rest apart (omega (arith, sum_by-cons (total_of_one (length p) p) s rest, none, h))))
    (λ le.
    let alike : IsAlike (length p) p s.stack = alike_from_shared p s.stack (length p) le in
    let new : first ≤ length p = ⊎_elim (λ l. absurd (n (IsAlike-trans alike (IsAlike-sym (alike_from_shared b s.stack (length p) (omega (arith, l))))))) (λ g. g) (cases_lt (length p) first) in
    among-left p (paths_from first s.stack) (paths_after (Some s.stack) rest)
    (subst (λ q. Among q (paths_from first s.stack)) (alike-front p s alike) (among-fronts count first (length p) s.stack new (omega (arith, new, alike.right)))))
    (cases_lt (names_shared p s.stack) (length p))

pub paths_of-all : (p : Stack) (xs : List Sample) → 0 < path_total p xs → Among p (paths_of xs)
paths_of-all p [] h = absurd (omega arith)
paths_of-all p (s ∷ rest) h =
    ⊎_elim
    (λ lt.
    let apart : IsAlike (length p) p s.stack → ⊥ = λ a. omega (arith, lt, shared_from_alike p s.stack (length p) a) in
    let none : total_of_one (length p) p s ≡ 0 = one-apart (length p) p s apart in
    among-right p (paths_from 0 s.stack) (paths_after (Some s.stack) rest) (paths_after-all s.stack p rest apart (omega (arith, sum_by-cons (total_of_one (length p) p) s rest, none, h))))
    (λ le.
    let alike : IsAlike (length p) p s.stack = alike_from_shared p s.stack (length p) le in
    among-left p (paths_from 0 s.stack) (paths_after (Some s.stack) rest)
    (subst (λ q. Among q (paths_from 0 s.stack)) (alike-front p s alike) (among-fronts (length s.stack + 1 - 0) 0 (length p) s.stack (omega arith) (omega (arith, alike.right)))))
    (cases_lt (names_shared p s.stack) (length p))

-- each of the paths has weight
has_front : (d : ℕ) (s : Sample) (xs : List Sample) → d ≤ length s.stack → 0 < s.weight → 0 < path_total (take d s.stack) (s ∷ xs)
has_front d s xs l w =
    omega (arith, path_total-front d s.stack (s ∷ xs) l, sum_by-cons (total_of_one d s.stack) s xs, one-alike d s.stack s (IsAlike-refl d s.stack l), w)

fronts_weigh : (m d : ℕ) (s : Sample) (xs : List Sample) → d + m ≤ length s.stack + 1 → 0 < s.weight → AllByRecursion (λ p. 0 < path_total p (s ∷ xs)) (map (λ k. take k s.stack) (range_with_len d m))
fronts_weigh zero d s xs l w = tt
fronts_weigh (suc m) d s xs l w = (has_front d s xs (omega arith) w, fronts_weigh m (d + 1) s xs (omega arith) w)

path_total-more : (p : Stack) (s : Sample) (xs : List Sample) → 0 < path_total p xs → 0 < path_total p (s ∷ xs)
path_total-more p s xs h = omega (arith, sum_by-cons (total_of_one (length p) p) s xs, h)

pub paths_after-weigh : (b : Stack) (xs : List Sample) → IsPositive xs → AllByRecursion (λ p. 0 < path_total p xs) (paths_after (Some b) xs)
paths_after-weigh b [] w = tt
paths_after-weigh b (s ∷ rest) w =
    let first = names_shared b s.stack + 1 in
    let most : IsAlike (names_shared b s.stack) b s.stack = alike_from_shared b s.stack (names_shared b s.stack) (omega arith) in
    each-append (λ p. 0 < path_total p (s ∷ rest)) (paths_from first s.stack) (paths_after (Some s.stack) rest)
    (fronts_weigh (length s.stack + 1 - first) first s rest (omega (arith, most.right)) w.0)
    (each-weaker (λ p. 0 < path_total p rest) (λ p. 0 < path_total p (s ∷ rest)) (λ p h. path_total-more p s rest h) (paths_after (Some s.stack) rest) (paths_after-weigh s.stack rest w.1))

pub paths_of-weigh : (xs : List Sample) → IsPositive xs → AllByRecursion (λ p. 0 < path_total p xs) (paths_of xs)
paths_of-weigh [] w = tt
paths_of-weigh (s ∷ rest) w =
    each-append (λ p. 0 < path_total p (s ∷ rest)) (paths_from 0 s.stack) (paths_after (Some s.stack) rest)
    (fronts_weigh (length s.stack + 1 - 0) 0 s rest (omega arith) w.0)
    (each-weaker (λ p. 0 < path_total p rest) (λ p. 0 < path_total p (s ∷ rest)) (λ p h. path_total-more p s rest h) (paths_after (Some s.stack) rest) (paths_after-weigh s.stack rest w.1))

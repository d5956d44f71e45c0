-- lists of samples with the same own sums
use Rattle.std.proofs.Common.{◌≡◌, ℕ, zero, suc, ◌+◌, ◌≤◌, ◌<◌, List, [], ◌∷◌, Bool, true, false, cond, not, length, map, filter, sum_by, sym, ◌∙◌, ap, subst, refl, arith, ltb}
use Rattle.std.specs.List.{AllByRecursion}
use Rattle.std.specs.Str.{bytes_eq}
use Rattle.std.specs.Cmp.Lexicographic.{pointwise}
use Rattle.std.proofs.lemmas.List.Sums.{sum_by-cons}
use Rattle.std.proofs.lemmas.Bool.{lt-ltb}
use Rattle.sample_tables.specs.declared.samples.Sample.{Sample}
use Rattle.merged_stacks.specs.Timeline.{Stack, is_drawn, drawn}
use Rattle.flame_layout.specs.Chart.{begins_alike}
use Rattle.flame_layout.specs.Graph.{sorted_by_stack, graph_of}
use Rattle.flame_layout.specs.Paths.{paths_of, Visit, boxes_of_visits, IsRising, SameOwn}
use Rattle.flame_layout.proofs.PathWords.{path_total, path_own, visit_of, own_at-is}
use Rattle.flame_layout.proofs.Ascending.{IsAscending, IsPositive, sorted-ascending, sorted-sum, sorted-each}
use Rattle.flame_layout.proofs.Visits.{own_at_path, own_at_path-same, path_own-cons, Decides-stack, ascending-visits}
use Rattle.flame_layout.proofs.Rising.{Among, each-among, same_rising, paths_of-rise, paths_of-all, paths_of-weigh}

-- the weight of the samples whose stack passes a test
abbrev pub tested : (Stack → Bool) → Sample → ℕ
tested g s = cond (g s.stack) s.weight 0

-- those with another stack
abbrev other : Stack → Sample → Bool
other q s = not (pointwise bytes_eq q s.stack)

abbrev without : Stack → List Sample → List Sample
without q xs = filter (other q) xs

without-length : (q : Stack) (xs : List Sample) → length (without q xs) ≤ length xs
without-length q [] = omega arith
without-length q (s ∷ xs) = by (other q s) (without-length q xs)
  where
    by : (b : Bool) → length (without q xs) ≤ length xs → length (cond b (s ∷ without q xs) (without q xs)) ≤ length (s ∷ xs)
    by true ih = omega (arith, ih)
    by false ih = omega (arith, ih)

-- the samples of one stack, and the others
without-sum : (g : Stack → Bool) (q : Stack) (xs : List Sample) → sum_by (tested g) xs ≡ sum_by (tested g) (without q xs) + cond (g q) (path_own q xs) 0
without-sum g q [] = by (g q)
  where
    by : (b : Bool) → 0 ≡ 0 + cond b 0 0
    by true = refl
    by false = refl
without-sum g q (s ∷ xs) = by (pointwise bytes_eq q s.stack) refl (without-sum g q xs)
  where
    joined : (c : Bool) (w own more rest : ℕ) → more ≡ rest + cond c own 0 → cond c w 0 + more ≡ rest + cond c (w + own) 0
    joined true w own more rest e = omega (arith, e)
    joined false w own more rest e = omega (arith, e)

    by : (b : Bool) → pointwise bytes_eq q s.stack ≡ b → sum_by (tested g) xs ≡ sum_by (tested g) (without q xs) + cond (g q) (path_own q xs) 0 →
        sum_by (tested g) (s ∷ xs) ≡ sum_by (tested g) (cond (not b) (s ∷ without q xs) (without q xs)) + cond (g q) (path_own q (s ∷ xs)) 0
    by true e ih =
        let same : q ≡ s.stack = (Decides-stack q s.stack).0 e in
        let own : path_own q (s ∷ xs) ≡ s.weight + path_own q xs = path_own-cons q s xs ∙ ap (λ n. n + path_own q xs) (own_at_path-same q s same) in
        sum_by-cons (tested g) s xs ∙ (ap (λ p. cond (g p) s.weight 0 + sum_by (tested g) xs) (sym same) ∙
        (joined (g q) s.weight (path_own q xs) (sum_by (tested g) xs) (sum_by (tested g) (without q xs)) ih ∙
        ap (λ n. sum_by (tested g) (without q xs) + cond (g q) n 0) (sym own)))
    by false e ih =
        let own : path_own q (s ∷ xs) ≡ path_own q xs = omega (arith, path_own-cons q s xs, ap (λ b. cond b s.weight 0) e) in
        omega (arith, ih, sum_by-cons (tested g) s xs, sum_by-cons (tested g) s (without q xs), ap (λ n. cond (g q) n 0) own)

-- the own sums without one stack
without-own : (q p : Stack) (xs : List Sample) → (q ≡ p → path_own p (without q xs) ≡ 0) × ((q ≡ p → ⊥) → path_own p (without q xs) ≡ path_own p xs)
without-own q p xs =
    let sums = without-sum (pointwise bytes_eq p) q xs in (
      (λ e. let yes : pointwise bytes_eq p q ≡ true = (Decides-stack p q).1 (sym e) in omega (arith, sums, ap (λ b. cond b (path_own q xs) 0) yes, ap (λ r. path_own r xs) e)),
      (λ n. by (pointwise bytes_eq p q) (λ e. n (sym ((Decides-stack p q).0 e))) sums),
    )
  where
    by : (b : Bool) → (b ≡ true → ⊥) → path_own p xs ≡ path_own p (without q xs) + cond b (path_own q xs) 0 → path_own p (without q xs) ≡ path_own p xs
    by true n e = absurd (n refl)
    by false n e = omega (arith, e)

-- the lists have the same own sums
abbrev pub SameSums : List Sample → List Sample → Type 0
SameSums xs ys = (path : Stack) → path_own path xs ≡ path_own path ys

without-same : (q : Stack) (xs ys : List Sample) → SameSums xs ys → SameSums (without q xs) (without q ys)
without-same q xs ys h p = by (pointwise bytes_eq q p) refl
  where
    by : (b : Bool) → pointwise bytes_eq q p ≡ b → path_own p (without q xs) ≡ path_own p (without q ys)
    by true e =
        let same : q ≡ p = (Decides-stack q p).0 e in
        (without-own q p xs).0 same ∙ sym ((without-own q p ys).0 same)
    by false e =
        let apart : q ≡ p → ⊥ = λ s. (let f : false ≡ true = sym e ∙ (Decides-stack q p).1 s in cc) in
        (without-own q p xs).1 apart ∙ (h p ∙ sym ((without-own q p ys).1 apart))

none-tested : (g : Stack → Bool) (n : ℕ) (ys : List Sample) → length ys ≤ n → SameSums [] ys → sum_by (tested g) ys ≡ 0
none-tested g n [] l h = refl
none-tested g zero (s ∷ ys) l h = absurd (omega arith)
none-tested g (suc n) (s ∷ ys) l h =
    let q = s.stack in
    let gone : other q s ≡ false = ap not ((Decides-stack q q).1 refl) in
    let first : without q (s ∷ ys) ≡ without q ys = ap (λ b. cond b (s ∷ without q ys) (without q ys)) gone in
    let left : sum_by (tested g) (without q ys) ≡ 0 = none-tested g n (without q ys) (omega (arith, without-length q ys)) (λ p. without-same q [] (s ∷ ys) h p ∙ ap (path_own p) first) in
    without-sum g q (s ∷ ys) ∙ (ap (λ xs. sum_by (tested g) xs + cond (g q) (path_own q (s ∷ ys)) 0) first ∙
    ((λ i. left i + cond (g q) (sym (h q) i) 0) ∙ zeros (g q)))
  where
    zeros : (b : Bool) → 0 + cond b 0 0 ≡ 0
    zeros true = refl
    zeros false = refl

-- any sum by a test of the stack is the same
pub same_tested : (g : Stack → Bool) (n : ℕ) (xs ys : List Sample) → length xs ≤ n → SameSums xs ys → sum_by (tested g) xs ≡ sum_by (tested g) ys
same_tested g n [] ys l h = sym (none-tested g (length ys) ys (omega arith) h)
same_tested g zero (s ∷ xs) ys l h = absurd (omega arith)
same_tested g (suc n) (s ∷ xs) ys l h =
    let q = s.stack in
    let gone : other q s ≡ false = ap not ((Decides-stack q q).1 refl) in
    let first : without q (s ∷ xs) ≡ without q xs = ap (λ b. cond b (s ∷ without q xs) (without q xs)) gone in
    let left : sum_by (tested g) (without q xs) ≡ sum_by (tested g) (without q ys) =
    same_tested g n (without q xs) (without q ys) (omega (arith, without-length q xs)) (λ p. ap (path_own p) (sym first) ∙ without-same q (s ∷ xs) ys h p) in
    without-sum g q (s ∷ xs) ∙ (ap (λ zs. sum_by (tested g) zs + cond (g q) (path_own q (s ∷ xs)) 0) first ∙
    ((λ i. left i + cond (g q) (h q i) 0) ∙ sym (without-sum g q ys)))

pub same_totals : (xs ys : List Sample) → SameSums xs ys → (path : Stack) → path_total path xs ≡ path_total path ys
same_totals xs ys h path = same_tested (λ stack. begins_alike (length path) path (record { stack = stack; weight = 0 })) (length xs) xs ys (omega arith) h

-- ---- samples of weight 0

drawn-tested : (g : Stack → Bool) (xs : List Sample) → sum_by (tested g) (drawn xs) ≡ sum_by (tested g) xs
drawn-tested g [] = refl
drawn-tested g (s ∷ xs) = by (is_drawn s) (weightless s.weight) (drawn-tested g xs)
  where
    weightless : (n : ℕ) → ltb 0 n ≡ false → n ≡ 0
    weightless zero e = refl
    weightless (suc n) e = cc (lt-ltb 0 (suc n) (omega arith))

    none : (c : Bool) → s.weight ≡ 0 → cond c s.weight 0 ≡ 0
    none true e = e
    none false e = refl

    by : (b : Bool) → (b ≡ false → s.weight ≡ 0) → sum_by (tested g) (drawn xs) ≡ sum_by (tested g) xs → sum_by (tested g) (cond b (s ∷ drawn xs) (drawn xs)) ≡ sum_by (tested g) (s ∷ xs)
    by true z ih = omega (arith, sum_by-cons (tested g) s (drawn xs), ih, sum_by-cons (tested g) s xs)
    by false z ih = omega (arith, none (g s.stack) (z refl), ih, sum_by-cons (tested g) s xs)

pub drawn-positive : (xs : List Sample) → IsPositive (drawn xs)
drawn-positive [] = tt
drawn-positive (s ∷ xs) = by (is_drawn s) (positive s.weight) (drawn-positive xs)
  where
    positive : (n : ℕ) → ltb 0 n ≡ true → 0 < n
    positive zero e = cc
    positive (suc n) e = omega arith

    by : (b : Bool) → (b ≡ true → 0 < s.weight) → IsPositive (drawn xs) → IsPositive (cond b (s ∷ drawn xs) (drawn xs))
    by true p ih = (p refl, ih)
    by false p ih = ih

-- what the sorted timeline sums to is what the samples do
pub timeline_own : (path : Stack) (xs : List Sample) → path_own path (sorted_by_stack (drawn xs)) ≡ path_own path xs
timeline_own path xs = sorted-sum (own_at_path path) (drawn xs) ∙ drawn-tested (λ stack. pointwise bytes_eq path stack) xs

pub timeline_total : (path : Stack) (xs : List Sample) → path_total path (sorted_by_stack (drawn xs)) ≡ path_total path xs
timeline_total path xs =
    sorted-sum (λ s. cond (begins_alike (length path) path s) s.weight 0) (drawn xs) ∙
    drawn-tested (λ stack. begins_alike (length path) path (record { stack = stack; weight = 0 })) xs

-- ---- a listing of the paths with weight

-- the visits are the paths with weight, rising, each with its sums
pub record IsListing (visits : List Visit) (samples : List Sample) : Type 0 where
  pub rises : IsRising (map (λ visit. visit.path) visits)
  pub all : (path : Stack) → 0 < path_total path samples → Among path (map (λ visit. visit.path) visits)
  pub sums : AllByRecursion (λ visit. (visit ≡ visit_of samples visit.path) × (0 < path_total visit.path samples)) visits

visits_of-paths : (samples : List Sample) (visits : List Visit) → AllByRecursion (λ visit. (visit ≡ visit_of samples visit.path) × (0 < path_total visit.path samples)) visits →
    map (visit_of samples) (map (λ visit. visit.path) visits) ≡ visits
visits_of-paths samples [] h = refl
visits_of-paths samples (v ∷ vs) h = λ i. sym (h.0.0) i ∷ visits_of-paths samples vs h.1 i

pub visits_weigh : (samples : List Sample) (visits : List Visit) → AllByRecursion (λ visit. (visit ≡ visit_of samples visit.path) × (0 < path_total visit.path samples)) visits →
    AllByRecursion (λ path. 0 < path_total path samples) (map (λ visit. visit.path) visits)
visits_weigh samples [] h = tt
visits_weigh samples (v ∷ vs) h = (h.0.1, visits_weigh samples vs h.1)

-- the paths of a timeline in order are those of a listing
pub listing_paths : (samples : List Sample) (visits : List Visit) → IsListing visits samples → paths_of (sorted_by_stack (drawn samples)) ≡ map (λ visit. visit.path) visits
listing_paths samples visits l =
    let line = sorted_by_stack (drawn samples) in
    let up : IsAscending (sorted_by_stack (drawn samples)) = sorted-ascending (drawn samples) in
    let weighs : IsPositive (sorted_by_stack (drawn samples)) = sorted-each (λ s. 0 < s.weight) (drawn samples) (drawn-positive samples) in
    same_rising (paths_of line) (map (λ visit. visit.path) visits) (paths_of-rise line up) l.rises
    (λ p m. l.all p (subst (λ n. 0 < n) (timeline_total p samples) (each-among (λ q. 0 < path_total q line) p (paths_of line) (paths_of-weigh line weighs) m)))
    (λ p m. paths_of-all p line (subst (λ n. 0 < n) (sym (timeline_total p samples)) (each-among (λ q. 0 < path_total q samples) p (map (λ visit. visit.path) visits) (visits_weigh samples visits l.sums) m)))

-- so the graph is that of the listing
pub listing_graph : (samples : List Sample) (visits : List Visit) → IsListing visits samples → graph_of samples ≡ boxes_of_visits 0 visits
listing_graph samples visits l =
    let line = sorted_by_stack (drawn samples) in
    let same : visit_of (sorted_by_stack (drawn samples)) ≡ visit_of samples = λ i p. record { path = p; own = timeline_own p samples i; total = timeline_total p samples i } in
    ascending-visits line (sorted-ascending (drawn samples)) ∙
    ((λ i. boxes_of_visits 0 (map (same i) (listing_paths samples visits l i))) ∙ ap (boxes_of_visits 0) (visits_of-paths samples visits l.sums))

-- the paths with weight are given by the own sums
pub same_paths : (xs ys : List Sample) → SameSums xs ys → paths_of (sorted_by_stack (drawn xs)) ≡ paths_of (sorted_by_stack (drawn ys))
same_paths xs ys h =
    let left = sorted_by_stack (drawn xs) in
    let right = sorted_by_stack (drawn ys) in
    let totals : (p : Stack) → path_total p left ≡ path_total p right = λ p. timeline_total p xs ∙ (same_totals xs ys h p ∙ sym (timeline_total p ys)) in
    let weighs_left = paths_of-weigh left (sorted-each (λ s. 0 < s.weight) (drawn xs) (drawn-positive xs)) in
    let weighs_right = paths_of-weigh right (sorted-each (λ s. 0 < s.weight) (drawn ys) (drawn-positive ys)) in
    same_rising (paths_of left) (paths_of right) (paths_of-rise left (sorted-ascending (drawn xs))) (paths_of-rise right (sorted-ascending (drawn ys)))
    (λ p m. paths_of-all p right (subst (λ n. 0 < n) (totals p) (each-among (λ q. 0 < path_total q left) p (paths_of left) weighs_left m)))
    (λ p m. paths_of-all p left (subst (λ n. 0 < n) (sym (totals p)) (each-among (λ q. 0 < path_total q right) p (paths_of right) weighs_right m)))

-- a graph is given by the own sums
pub same_graph : (xs ys : List Sample) → SameSums xs ys → graph_of xs ≡ graph_of ys
same_graph xs ys h =
    let left = sorted_by_stack (drawn xs) in
    let right = sorted_by_stack (drawn ys) in
    let totals : (p : Stack) → path_total p left ≡ path_total p right = λ p. timeline_total p xs ∙ (same_totals xs ys h p ∙ sym (timeline_total p ys)) in
    let owns : (p : Stack) → path_own p left ≡ path_own p right = λ p. timeline_own p xs ∙ (h p ∙ sym (timeline_own p ys)) in
    let same : visit_of (sorted_by_stack (drawn xs)) ≡ visit_of (sorted_by_stack (drawn ys)) = λ i p. record { path = p; own = owns p i; total = totals p i } in
    ascending-visits left (sorted-ascending (drawn xs)) ∙ ((λ i. boxes_of_visits 0 (map (same i) (same_paths xs ys h i))) ∙ sym (ascending-visits right (sorted-ascending (drawn ys))))

pub same_sums : (xs ys : List Sample) → SameOwn xs ys → SameSums xs ys
same_sums xs ys h path = sym (own_at-is path xs) ∙ (h path ∙ own_at-is path ys)

-- weights and parts of a timeline
use Rattle.std.proofs.Common.{◌≡◌, ℕ, zero, suc, ◌+◌, ◌≤◌, ◌<◌, List, [], ◌∷◌, ◌++◌, Bool, true, false, cond, length, take, drop, get_or, sym, ◌∙◌, ap, refl, arith, ltb, sum_by}
use Rattle.std.proofs.lemmas.List.Sums.{sum_by-cons, sum_by-append, sum_by_more, sum_by-drop_more, sum_by-take-le, sum_by-take-drop}
use Rattle.std.proofs.lemmas.List.{drop_more}
use Rattle.std.proofs.lemmas.Bool.{lt-ltb, le-ltb}
use Rattle.sample_tables.specs.declared.samples.Sample.{Sample}
use Rattle.stack_core.specs.Ledgers.{ListState}
use Rattle.merged_stacks.specs.Timeline.{total_weight, is_drawn, drawn, timeline, samples_of}

abbrev pub weight_of : Sample → ℕ
weight_of sample = sample.weight

pub total_weight-cons : (s : Sample) (xs : List Sample) → total_weight (s ∷ xs) ≡ s.weight + total_weight xs
total_weight-cons s xs = sum_by-cons weight_of s xs

total_by : (s : Sample) (xs : List Sample) (b : Bool) → (b ≡ false → s.weight ≡ 0) → total_weight (drawn xs) ≡ total_weight xs → total_weight (cond b (s ∷ drawn xs) (drawn xs)) ≡ total_weight (s ∷ xs)
total_by s xs true h e = total_weight-cons s (drawn xs) ∙ (ap (λ n. s.weight + n) e ∙ sym (total_weight-cons s xs))
total_by s xs false h e = omega (arith, e, h refl, total_weight-cons s xs)

weightless : (n : ℕ) → ltb 0 n ≡ false → n ≡ 0
weightless zero e = refl
weightless (suc n) e = cc (lt-ltb 0 (suc n) (omega arith))

pub total_weight-drawn : (xs : List Sample) → total_weight (drawn xs) ≡ total_weight xs
total_weight-drawn [] = refl
total_weight-drawn (s ∷ xs) = total_by s xs (is_drawn s) (weightless s.weight) (total_weight-drawn xs)

-- the weight of a timeline is that of all lists
pub timeline_weight : (lists : List ListState) → total_weight (timeline (samples_of lists)) ≡ sum_by (λ list. total_weight list.samples) lists
timeline_weight [] = refl
timeline_weight (l ∷ ls) =
    sum_by-append weight_of (drawn l.samples) (timeline (samples_of ls)) ∙
    ((λ i. total_weight-drawn l.samples i + timeline_weight ls i) ∙ sym (sum_by-cons (λ list. total_weight list.samples) l ls))

pub timeline_weight-take : (lists : List ListState) (i : ℕ) (l : ListState) → i < length lists → l ≡ get_or lists i l →
    total_weight (timeline (samples_of (take (i + 1) lists))) ≡ total_weight (timeline (samples_of (take i lists))) + total_weight l.samples
timeline_weight-take lists i l h e =
    let f = λ (list : ListState). total_weight list.samples in
    timeline_weight (take (i + 1) lists) ∙ (sum_by_more f lists i l h ∙ (λ j. sym (timeline_weight (take i lists)) j + f (sym e j)))

-- one list more in front
pub timeline-drop : (lists : List ListState) (i j : ℕ) (l : ListState) → j ≡ i + 1 → i < length lists → l ≡ get_or lists i l →
    timeline (samples_of (drop i lists)) ≡ drawn l.samples ++ timeline (samples_of (drop j lists))
timeline-drop lists i j l e h is =
    ap (λ ls. timeline (samples_of ls)) (drop_more lists i l h) ∙ (λ k. drawn ((sym is k).samples) ++ timeline (samples_of (drop (sym e k) lists)))

pub timeline_weight-drop : (lists : List ListState) (i j : ℕ) (l : ListState) → j ≡ i + 1 → i < length lists → l ≡ get_or lists i l →
    total_weight (timeline (samples_of (drop i lists))) ≡ total_weight l.samples + total_weight (timeline (samples_of (drop j lists)))
timeline_weight-drop lists i j l e h is =
    ap total_weight (timeline-drop lists i j l e h is) ∙ (sum_by-append weight_of (drawn l.samples) (timeline (samples_of (drop j lists))) ∙
    ap (λ n. n + total_weight (timeline (samples_of (drop j lists)))) (total_weight-drawn l.samples))

pub timeline_weight-all : (lists : List ListState) (i : ℕ) → total_weight (timeline (samples_of (take i lists))) ≤ total_weight (timeline (samples_of lists))
timeline_weight-all lists i = omega (arith, timeline_weight (take i lists), timeline_weight lists, sum_by-take-le (λ (list : ListState). total_weight list.samples) lists i)

-- one sample more in front
pub drawn-drop_yes : (xs : List Sample) (i j : ℕ) (d : Sample) → j ≡ i + 1 → i < length xs → 0 < (get_or xs i d).weight → drawn (drop i xs) ≡ get_or xs i d ∷ drawn (drop j xs)
drawn-drop_yes xs i j d e h w =
    ap drawn (drop_more xs i d h) ∙ (ap (λ b. cond b (get_or xs i d ∷ drawn (drop (i + 1) xs)) (drawn (drop (i + 1) xs))) (lt-ltb 0 (get_or xs i d).weight w) ∙ ap (λ n. get_or xs i d ∷ drawn (drop n xs)) (sym e))

pub drawn-drop_no : (xs : List Sample) (i j : ℕ) (d : Sample) → j ≡ i + 1 → i < length xs → (get_or xs i d).weight ≡ 0 → drawn (drop i xs) ≡ drawn (drop j xs)
drawn-drop_no xs i j d e h w =
    ap drawn (drop_more xs i d h) ∙ (ap (λ b. cond b (get_or xs i d ∷ drawn (drop (i + 1) xs)) (drawn (drop (i + 1) xs))) (le-ltb 0 (get_or xs i d).weight (omega (arith, w))) ∙ ap (λ n. drawn (drop n xs)) (sym e))

pub total_weight-drop : (xs : List Sample) (i j : ℕ) (d : Sample) → j ≡ i + 1 → i < length xs → total_weight (drop i xs) ≡ (get_or xs i d).weight + total_weight (drop j xs)
total_weight-drop xs i j d e h = sum_by-drop_more weight_of xs i d h ∙ ap (λ n. (get_or xs i d).weight + total_weight (drop n xs)) (sym e)

abbrev pub no_sample : Sample
no_sample = record { stack = []; weight = 0 }

pub total_weight-drop_le : (xs : List Sample) (i : ℕ) → total_weight (drop i xs) ≤ total_weight xs
total_weight-drop_le xs i = omega (arith, sum_by-take-drop weight_of xs i)

pub timeline_weight-drop_le : (lists : List ListState) (i : ℕ) → total_weight (timeline (samples_of (drop i lists))) ≤ total_weight (timeline (samples_of lists))
timeline_weight-drop_le lists i = omega (arith, timeline_weight (drop i lists), timeline_weight lists, sum_by-take-drop (λ (list : ListState). total_weight list.samples) lists i)

-- a timeline without weight has no samples
pub drawn-nil : (xs : List Sample) → total_weight (drawn xs) ≡ 0 → drawn xs ≡ []
drawn-nil [] e = refl
drawn-nil (s ∷ xs) e = by s.weight (is_drawn s) (drawn-nil xs) (positive s.weight) e
  where
    positive : (n : ℕ) → ltb 0 n ≡ true → 0 < n
    positive zero h = cc
    positive (suc n) h = omega arith

    by : (w : ℕ) (b : Bool) → (total_weight (drawn xs) ≡ 0 → drawn xs ≡ []) → (b ≡ true → 0 < s.weight) → total_weight (cond b (s ∷ drawn xs) (drawn xs)) ≡ 0 → cond b (s ∷ drawn xs) (drawn xs) ≡ []
    by w true ih p z = absurd (omega (arith, p refl, total_weight-cons s (drawn xs), z))
    by w false ih p z = ih z

pub timeline-nil : (sources : List (List Sample)) → total_weight (timeline sources) ≡ 0 → timeline sources ≡ []
timeline-nil [] e = refl
timeline-nil (xs ∷ sources) e =
    let parts = sum_by-append weight_of (drawn xs) (timeline sources) in
    λ i. drawn-nil xs (omega (arith, parts, e)) i ++ timeline-nil sources (omega (arith, parts, e)) i

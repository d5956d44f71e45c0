-- each path of a chart goes on from the path before it
use Rattle.std.proofs.Common.{◌≡◌, ℕ, zero, suc, ◌+◌, ◌-◌, ◌≤◌, ◌<◌, List, [], ◌∷◌, ◌++◌, length, take, map, get_or, sym, ◌∙◌, ap, subst, refl, arith, ⊎_elim, Some}
use Rattle.std.specs.Prelude.{if◌then◌else◌}
use Rattle.std.specs.List.{range_with_len}
use Rattle.std.proofs.lemmas.List.{take-take, take_all, length-take-le, take_more}
use Rattle.std.proofs.lemmas.Bool.{cases_lt, ne_eqb}
use Rattle.call_tree.proofs.Threads.{Chained}
use Rattle.sample_tables.specs.declared.samples.Sample.{Sample}
use Rattle.merged_stacks.specs.Timeline.{Stack}
use Rattle.flame_layout.specs.declared.boxes.SpanBox.{SpanBox}
use Rattle.flame_layout.specs.Chart.{names_shared, box_name}
use Rattle.flame_layout.specs.Paths.{paths_after, paths_of, Visit}
use Rattle.flame_layout.specs.checked.Paired.{next_path}
use Rattle.flame_layout.proofs.Shared.{IsAlike, IsAlike-refl, alike_from_shared}

-- a path has, but for its last name, the names that the one before it begins with
abbrev GoesOn : {A : Type 0} → List A → List A → Type 0
GoesOn p q = 0 < length q → take (length q - 1) p ≡ take (length q - 1) q

-- and so does each path of a list
abbrev pub PathsGoOn : {A : Type 0} → List A → List (List A) → Type 0
PathsGoOn p qs = Chained GoesOn p qs

take-same : {A : Type 0} (k n : ℕ) (a b : List A) → k ≤ n → take n a ≡ take n b → take k a ≡ take k b
take-same k n a b l e = sym (take-take k n a l) ∙ (ap (take k) e ∙ take-take k n b l)

chained_fronts : (m d : ℕ) (p a : Stack) (more : List Stack) → d + suc m ≡ length a + 1 → (0 < d → take (d - 1) p ≡ take (d - 1) a) → PathsGoOn a more → PathsGoOn p (map (λ k. take k a) (range_with_len d (suc m)) ++ more)
chained_fronts zero d p a more l e c =
    let long : length (take d a) ≡ d = length-take-le d a (omega arith) in
    let full : take d a ≡ a = take_all d a (omega arith) in (
      (λ w. ap (λ n. take (n - 1) p) long ∙ (e (omega (arith, w, long)) ∙ sym (ap (λ n. take (n - 1) (take d a)) long ∙ take-take (d - 1) d a (omega arith)))),
      subst (λ q. PathsGoOn q more) (sym full) c,
    )
chained_fronts (suc m) d p a more l e c =
    let long : length (take d a) ≡ d = length-take-le d a (omega arith) in (
      (λ w. ap (λ n. take (n - 1) p) long ∙ (e (omega (arith, w, long)) ∙ sym (ap (λ n. take (n - 1) (take d a)) long ∙ take-take (d - 1) d a (omega arith)))),
      chained_fronts m (d + 1) (take d a) a more (omega arith) (λ w. ap (λ n. take n (take d a)) (omega arith) ∙ (take-take d d a (omega arith) ∙ ap (λ n. take n a) (omega arith))) c,
    )

-- p begins with the stack before, which may be shorter than the path before
chained_after : (b p : Stack) (xs : List Sample) → IsAlike (length b) b p → PathsGoOn p (paths_after (Some b) xs)
chained_after b p [] h = tt
chained_after b p (s ∷ rest) h =
    let c = names_shared b s.stack in
    let most : IsAlike c b s.stack = alike_from_shared b s.stack c (omega arith) in
    let front : take c p ≡ take c s.stack = sym (take-same c (length b) b p most.left h.same) ∙ most.same in
    ⊎_elim
    (λ lt.
    let n = length s.stack - (c + 1) in
    let count : length s.stack + 1 - (c + 1) ≡ suc n = omega (arith, lt) in
    subst (λ k. PathsGoOn p (map (λ j. take j s.stack) (range_with_len (c + 1) k) ++ paths_after (Some s.stack) rest)) (sym count)
    (chained_fronts n (c + 1) p s.stack (paths_after (Some s.stack) rest) (omega (arith, lt)) (λ w. ap (λ k. take k p) (omega arith) ∙ (front ∙ ap (λ k. take k s.stack) (omega arith)))
    (chained_after s.stack s.stack rest (IsAlike-refl (length s.stack) s.stack (omega arith)))))
    (λ le.
    let none : length s.stack + 1 - (c + 1) ≡ 0 = omega (arith, le) in
    let all : take (length s.stack) s.stack ≡ take (length s.stack) p = sym (take-same (length s.stack) c p s.stack le front) in
    subst (λ k. PathsGoOn p (map (λ j. take j s.stack) (range_with_len (c + 1) k) ++ paths_after (Some s.stack) rest)) (sym none)
    (chained_after s.stack p rest (record { left = omega arith; right = omega (arith, le, most.left, h.right); same = all })))
    (cases_lt c (length s.stack))

pub chained_paths : (xs : List Sample) → PathsGoOn [] (paths_of xs)
chained_paths [] = tt
chained_paths (s ∷ rest) =
    let count : length s.stack + 1 - 0 ≡ suc (length s.stack) = omega arith in
    subst (λ k. PathsGoOn [] (map (λ j. take j s.stack) (range_with_len 0 k) ++ paths_after (Some s.stack) rest)) (sym count)
    (chained_fronts (length s.stack) 0 [] s.stack (paths_after (Some s.stack) rest) (omega arith) (λ w. absurd (omega (arith, w))) (chained_after s.stack s.stack rest (IsAlike-refl (length s.stack) s.stack (omega arith))))

-- ---- paths are found again

-- the box of a visit
abbrev pub visited_box : ℕ → Visit → SpanBox
visited_box start visit = record {
  depth = length visit.path;
  name = box_name (length visit.path) visit.path;
  start = start;
  weight = visit.total;
  own = visit.own;
}

-- the path of a box is that of the box before it, cut, and the box's name
pub next_is : (before path : Stack) (start own total : ℕ) → (0 < length path → take (length path - 1) before ≡ take (length path - 1) path) → next_path before (visited_box start (record { path = path; own = own; total = total })) ≡ path
next_is before [] start own total h = refl
next_is before (n ∷ p) start own total h =
    let k = length (n ∷ p) - 1 in
    let last : length p ≡ length (n ∷ p) - 1 = omega arith in
    ap (λ b. if b then [] else take (length (n ∷ p) - 1) before ++ get_or (n ∷ p) (length p) [] ∷ []) (ne_eqb (length (n ∷ p)) 0 (λ e. omega (arith, e))) ∙
    (ap (λ front. front ++ get_or (n ∷ p) (length p) [] ∷ []) (h (omega arith)) ∙
    (ap (λ m. take k (n ∷ p) ++ get_or (n ∷ p) m [] ∷ []) last ∙
    (sym (take_more (n ∷ p) k [] (omega arith)) ∙ take_all (k + 1) (n ∷ p) (omega arith))))

-- The frame numbers of a node's children, sorted.
use Rattle.std.proofs.Common.{◌≡◌, ℕ, ◌+◌, ◌<◌, ◌≤◌, ◌↔◌, ◌⊎◌, inl, inr, Bool, true, false, cond, ◌&&◌, ◌||◌, List, [], ◌∷◌, ◌++◌, length, get_or, map, filter, nat_eq, Contains, refl, sym, ap, ◌∙◌, arith, suc, zero, eq-eqb}
use Rattle.std.specs.List.{list_any, count_by}
use Rattle.std.specs.List.Sorted.{IsPermutation, IsSorted}
use Rattle.std.specs.Ordering.{nat_cmp}
use Rattle.std.proofs.lemmas.List.{get_or_default}
use Rattle.std.proofs.lemmas.List.Sums.{sum_by-cons}
use Rattle.std.proofs.lemmas.List.Folds.{list_any_at, Any-from_list_any}
use Rattle.std.proofs.lemmas.List.Sorted.{IsNonDecreasingBy-from_sort, sum_by-IsPermutation, list_any-IsPermutation}
use borrow.Author.Tests.{eqb-true}
use Rattle.call_tree.specs.declared.links.Link.{Link}
use Rattle.call_tree.specs.checked.Nodes.{path_of, HasShape, HasChild, frames_below}
use Rattle.call_tree.proofs.SameLinks.{same_link, same_link_is, same_link_equal}
use Rattle.call_tree.proofs.Shape.{origin}
use Rattle.call_tree.proofs.Paths.{path_of_child}

module _ {X : Type 0} (p : X → Bool) where
  abbrev counted : Bool → ℕ
  counted b = cond b 1 0

  pub count_one : (xs : List X) (i : ℕ) (d : X) → i < length xs → p (get_or xs i d) ≡ true → 1 ≤ count_by p xs
  count_one [] i d lt at = absurd (omega arith)
  count_one (x ∷ xs) zero d lt at = omega (arith, sum_by-cons (λ y. cond (p y) 1 0) x xs, ap counted at)
  count_one (x ∷ xs) (suc i) d lt at = omega (arith, sum_by-cons (λ y. cond (p y) 1 0) x xs, count_one xs i d (omega arith) at)

  pub count_two : (xs : List X) (i j : ℕ) (d : X) → i < j → j < length xs → p (get_or xs i d) ≡ true → p (get_or xs j d) ≡ true → 2 ≤ count_by p xs
  count_two [] i j d lt lj ai aj = absurd (omega arith)
  count_two (x ∷ xs) i zero d lt lj ai aj = absurd (omega arith)
  count_two (x ∷ xs) zero (suc j) d lt lj ai aj = omega (arith, sum_by-cons (λ y. cond (p y) 1 0) x xs, ap counted ai, count_one xs j d (omega arith) aj)
  count_two (x ∷ xs) (suc i) (suc j) d lt lj ai aj = omega (arith, sum_by-cons (λ y. cond (p y) 1 0) x xs, count_two xs i j d (omega arith) (omega arith) ai aj)

  pub count_none : (xs : List X) (d : X) → ((i : ℕ) → i < length xs → p (get_or xs i d) ≡ true → ⊥) → count_by p xs ≡ 0
  count_none [] d none = refl
  count_none (x ∷ xs) d none =
      omega (arith, sum_by-cons (λ y. cond (p y) 1 0) x xs, here (p x) (none 0 (omega arith)), count_none xs d (λ i lt. none (suc i) (omega arith)))
    where
      here : (b : Bool) → (b ≡ true → ⊥) → counted b ≡ 0
      here true h = absurd (h refl)
      here false h = refl

  pub count_at_most_one : (xs : List X) (d : X) → ((i j : ℕ) → i < j → j < length xs → p (get_or xs i d) ≡ true → p (get_or xs j d) ≡ true → ⊥) → count_by p xs ≤ 1
  count_at_most_one [] d apart = omega arith
  count_at_most_one (x ∷ xs) d apart =
      omega (arith, sum_by-cons (λ y. cond (p y) 1 0) x xs, by (p x) refl (count_at_most_one xs d (λ i j lt lj. apart (suc i) (suc j) (omega arith) (omega arith))))
    where
      by : (b : Bool) → p x ≡ b → count_by p xs ≤ 1 → counted b + count_by p xs ≤ 1
      by true e rest = omega (arith, count_none xs d (λ i lt at. apart 0 (suc i) (omega arith) (omega arith) e at))
      by false e rest = omega arith

any_below : (node n : ℕ) (links : List Link) → list_any (nat_eq n) (frames_below node links) ≡ list_any (same_link (record { parent = node; frame = n })) links
any_below node n [] = refl
any_below node n (x ∷ links) = by (nat_eq node x.parent) (any_below node n links)
  where
    by : (b : Bool) → list_any (nat_eq n) (frames_below node links) ≡ list_any (same_link (record { parent = node; frame = n })) links
        → list_any (nat_eq n) (map (λ y. y.frame) (cond b (x ∷ filter (λ y. nat_eq node y.parent) links) (filter (λ y. nat_eq node y.parent) links)))
        ≡ ((b && nat_eq n x.frame) || list_any (same_link (record { parent = node; frame = n })) links)
    by true rest = ap (λ b. nat_eq n x.frame || b) rest
    by false rest = rest

count_below : (node n : ℕ) (links : List Link) → count_by (nat_eq n) (frames_below node links) ≡ count_by (same_link (record { parent = node; frame = n })) links
count_below node n [] = refl
count_below node n (x ∷ links) =
    by (nat_eq node x.parent) (count_below node n links) ∙ sym (sum_by-cons (λ y. cond (same_link (record { parent = node; frame = n }) y) 1 0) x links)
  where
    by : (b : Bool) → count_by (nat_eq n) (frames_below node links) ≡ count_by (same_link (record { parent = node; frame = n })) links
        → count_by (nat_eq n) (map (λ y. y.frame) (cond b (x ∷ filter (λ y. nat_eq node y.parent) links) (filter (λ y. nat_eq node y.parent) links)))
        ≡ cond (b && nat_eq n x.frame) 1 0 + count_by (same_link (record { parent = node; frame = n })) links
    by true rest = sum_by-cons (λ y. cond (nat_eq n y) 1 0) x.frame (frames_below node links) ∙ ap (λ m. cond (nat_eq n x.frame) 1 0 + m) rest
    by false rest = omega (arith, rest)

has_any : (n : ℕ) (xs : List ℕ) → Contains xs n → list_any (nat_eq n) xs ≡ true
has_any n xs has = list_any_at (nat_eq n) xs has.0 n has.1 (eq-eqb n _ (sym has.2))

any_has : (n : ℕ) (xs : List ℕ) → list_any (nat_eq n) xs ≡ true → Contains xs n
any_has n xs e =
    let at = Any-from_list_any (nat_eq n) xs e in
    (at.0, at.2, get_or_default xs at.0 n at.1 at.2 ∙ at.3 ∙ sym (eqb-true n at.1 at.4))

child_any : (node n : ℕ) (links : List Link) → HasChild links node n → list_any (same_link (record { parent = node; frame = n })) links ≡ true
child_any node n links has = list_any_at (same_link (record { parent = node; frame = n })) links has.0 (record { parent = node; frame = n }) has.1 (same_link_equal _ _ (sym has.2))

any_child : (node n : ℕ) (links : List Link) → list_any (same_link (record { parent = node; frame = n })) links ≡ true → HasChild links node n
any_child node n links e =
    let at = Any-from_list_any (same_link (record { parent = node; frame = n })) links e in
    (at.0, at.2, get_or_default links at.0 _ at.1 at.2 ∙ at.3 ∙ sym (same_link_is _ at.1 at.4))

pub members_sorted : (node : ℕ) (links : List Link) (sorted : List ℕ) → IsPermutation (frames_below node links) sorted → (n : ℕ) → Contains sorted n ↔ HasChild links node n
members_sorted node links sorted same n = (
  (λ has. any_child node n links (sym (any_below node n links) ∙ list_any-IsPermutation (nat_eq n) _ _ same ∙ has_any n sorted has)),
  (λ has. any_has n sorted (sym (list_any-IsPermutation (nat_eq n) _ _ same) ∙ any_below node n links ∙ child_any node n links has)),
)

-- each child's link stands once
link_once : (links : List Link) (owns totals : List ℕ) → HasShape links owns totals → (x : Link) → count_by (same_link x) links ≤ 1
link_once links owns totals s x =
    count_at_most_one (same_link x) links origin (λ i j lt lj ai aj.
    let one : get_or links i origin ≡ get_or links j origin = sym (same_link_is x _ ai) ∙ same_link_is x _ aj in
    let path : path_of links (i + 1) ≡ path_of links (j + 1) =
    path_of_child links i origin (omega arith) (s.after_parent i origin (omega arith))
    ∙ ap (λ (y : Link). path_of links y.parent ++ y.frame ∷ []) one
    ∙ sym (path_of_child links j origin lj (s.after_parent j origin lj)) in
    let e = s.distinct (i + 1) (j + 1) (omega arith) (omega arith) path in
    omega arith)

pub sorted_rises : (links : List Link) (owns totals : List ℕ) → HasShape links owns totals → (node : ℕ) (sorted : List ℕ)
    → IsPermutation (frames_below node links) sorted → IsSorted nat_cmp sorted → (i j : ℕ) → i < j → j < length sorted → get_or sorted i 0 < get_or sorted j 0
sorted_rises links owns totals s node sorted same up i j lt lj =
    by (least _ _ (IsNonDecreasingBy-from_sort (λ x. x) sorted up i j 0 (omega arith) lj))
  where
    least : (a b : ℕ) → a ≤ b → (a < b) ⊎ (a ≡ b)
    least a b le = grind arith

    by : (get_or sorted i 0 < get_or sorted j 0) ⊎ (get_or sorted i 0 ≡ get_or sorted j 0) → get_or sorted i 0 < get_or sorted j 0
    by (inl less) = less
    by (inr e) =
        let n = get_or sorted i 0 in
        let two = count_two (nat_eq n) sorted i j 0 lt lj (eq-eqb n n refl) (eq-eqb n _ e) in
        let one = link_once links owns totals s (record { parent = node; frame = n }) in
        absurd (omega (arith, two, one, count_below node n links, sum_by-IsPermutation (λ y. cond (nat_eq n y) 1 0) _ _ same))

-- One box more is drawn or left out.
use Rattle.std.proofs.Common.{◌≡◌, ℕ, ◌+◌, ◌<◌, ◌≤◌, max, true, false, not, List, [], ◌∷◌, ◌++◌, length, get_or, take, refl, sym, ap, ◌∙◌, append-nil, add-zero, arith}
use Rattle.std.proofs.lemmas.List.{take_more, length-append}
use Rattle.std.proofs.lemmas.List.Elements.{filter-append}
use Rattle.std.proofs.lemmas.List.Filters.{length-filter_both, sum_by-filter_both}
use Rattle.std.proofs.lemmas.List.Sums.{sum_by-append, sum_by-cons, sum_by-take-le}
use Rattle.flame_layout.specs.Boxes.{SeenBox}
use Rattle.svg_texts.specs.Svg.{Picture, is_drawn, drawn, left_out, rows_of, own_weight}

pub boxes_more : (boxes : List SeenBox) (place : ℕ) (one : SeenBox) → place < length boxes → ((other : SeenBox) → one ≡ get_or boxes place other) → take (place + 1) boxes ≡ take place boxes ++ one ∷ []
boxes_more boxes place one there is = take_more boxes place one there ∙ ap (λ (box : SeenBox). take place boxes ++ box ∷ []) (sym (is one))

rows-push : (boxes : List SeenBox) (one : SeenBox) → rows_of (boxes ++ one ∷ []) ≡ max (rows_of boxes) (one.span.depth + 1)
rows-push [] one = omega arith
rows-push (box ∷ boxes) one = omega (arith, rows-push boxes one)

module _ (picture : Picture) (boxes : List SeenBox) (one : SeenBox) where
  drawn_more : is_drawn picture one ≡ true → drawn picture (boxes ++ one ∷ []) ≡ drawn picture boxes ++ one ∷ []
  drawn_more is = filter-append (is_drawn picture) boxes (one ∷ []) ∙ rw is refl

  drawn_still : is_drawn picture one ≡ false → drawn picture (boxes ++ one ∷ []) ≡ drawn picture boxes
  drawn_still is = filter-append (is_drawn picture) boxes (one ∷ []) ∙ rw is (append-nil (drawn picture boxes))

  left_still : is_drawn picture one ≡ true → left_out picture (boxes ++ one ∷ []) ≡ left_out picture boxes
  left_still is = filter-append (λ box. not (is_drawn picture box)) boxes (one ∷ []) ∙ rw is (append-nil (left_out picture boxes))

  left_more : is_drawn picture one ≡ false → left_out picture (boxes ++ one ∷ []) ≡ left_out picture boxes ++ one ∷ []
  left_more is = filter-append (λ box. not (is_drawn picture box)) boxes (one ∷ []) ∙ rw is refl

  pub rows_more : is_drawn picture one ≡ true → rows_of (drawn picture (boxes ++ one ∷ [])) ≡ max (rows_of (drawn picture boxes)) (one.span.depth + 1)
  rows_more is = ap rows_of (drawn_more is) ∙ rows-push (drawn picture boxes) one

  pub rows_still : is_drawn picture one ≡ false → rows_of (drawn picture (boxes ++ one ∷ [])) ≡ rows_of (drawn picture boxes)
  rows_still is = ap rows_of (drawn_still is)

  pub count_more : is_drawn picture one ≡ false → length (left_out picture (boxes ++ one ∷ [])) ≡ length (left_out picture boxes) + 1
  count_more is = ap length (left_more is) ∙ length-append (left_out picture boxes) (one ∷ [])

  pub count_still : is_drawn picture one ≡ true → length (left_out picture (boxes ++ one ∷ [])) ≡ length (left_out picture boxes)
  count_still is = ap length (left_still is)

  pub weight_more : is_drawn picture one ≡ false → own_weight (left_out picture (boxes ++ one ∷ [])) ≡ own_weight (left_out picture boxes) + one.span.own
  weight_more is =
      let own : SeenBox → ℕ = λ box. box.span.own in
      ap own_weight (left_more is) ∙ (sum_by-append own (left_out picture boxes) (one ∷ []) ∙ ap (λ n. own_weight (left_out picture boxes) + n) (sum_by-cons own one [] ∙ add-zero one.span.own))

  pub weight_still : is_drawn picture one ≡ true → own_weight (left_out picture (boxes ++ one ∷ [])) ≡ own_weight (left_out picture boxes)
  weight_still is = ap own_weight (left_still is)

-- those that are left out are not more than all, nor heavier
pub left_few : (picture : Picture) (boxes : List SeenBox) → length (left_out picture boxes) ≤ length boxes
left_few picture boxes = omega (arith, length-filter_both (is_drawn picture) (λ (box : SeenBox). not (is_drawn picture box)) (λ box. refl) boxes)

pub left_light : (picture : Picture) (boxes : List SeenBox) (count : ℕ) → own_weight (left_out picture (take count boxes)) ≤ own_weight boxes
left_light picture boxes count =
    let own : SeenBox → ℕ = λ box. box.span.own in
    omega (arith, sum_by-filter_both (is_drawn picture) (λ (box : SeenBox). not (is_drawn picture box)) (λ box. refl) own (take count boxes), sum_by-take-le own boxes count)

-- together they are all
pub parts_count : (picture : Picture) (boxes : List SeenBox) → length (drawn picture boxes) + length (left_out picture boxes) ≡ length boxes
parts_count picture boxes = length-filter_both (is_drawn picture) (λ (box : SeenBox). not (is_drawn picture box)) (λ box. refl) boxes

pub parts_weigh : (picture : Picture) (boxes : List SeenBox) → own_weight (drawn picture boxes) + own_weight (left_out picture boxes) ≡ own_weight boxes
parts_weigh picture boxes = sum_by-filter_both (is_drawn picture) (λ (box : SeenBox). not (is_drawn picture box)) (λ box. refl) (λ (box : SeenBox). box.span.own) boxes

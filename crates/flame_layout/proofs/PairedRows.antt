-- rows of boxes that stand in step, one after another
use Rattle.std.proofs.Common.{◌≡◌, ℕ, ◌+◌, ◌-◌, ◌<◌, List, [], ◌∷◌, ◌++◌, false, nat_eq, length, map, take, drop, get_or, min, sym, ◌∙◌, ap, refl, arith, ⊎_elim}
use Rattle.std.specs.Prelude.{◌≤◌, if◌then◌else◌}
use denote.Ref.{Bor}
use Rattle.std.proofs.lemmas.List.{drop_more, drop_all, append-nil, append_assoc, take-map, map_push}
use Rattle.std.proofs.lemmas.Bool.{cases_lt, le-ltb, lt-ltb}
use Rattle.merged_stacks.specs.Timeline.{Stack}
use Rattle.flame_layout.specs.Boxes.{compared_of, span_of}
use Rattle.flame_layout.specs.declared.boxes.DrawnBox.{DrawnBox}
use Rattle.flame_layout.specs.declared.boxes.DrawnPair.{DrawnPair}
use Rattle.flame_layout.specs.declared.boxes.SpanBox.{SpanBox}
use Rattle.flame_layout.specs.declared.boxes.PairRow.{PairRow}
use Rattle.flame_layout.specs.declared.boxes.ComparedBox.{ComparedBox}
use Rattle.flame_layout.specs.checked.Paired.{names_now, next_path, paired_boxes, paired_row, paired_rows}

-- what is left behind a place of a list
left_of : (spans : List SpanBox) (n : ℕ) (span : SpanBox) → n < length spans → ((d : SpanBox) → get_or spans n d ≡ span) → drop n spans ≡ span ∷ drop (n + 1) spans
left_of spans n span l is = drop_more spans n span l ∙ ap (λ one. one ∷ drop (n + 1) spans) (is span)

-- one row more
pub rows_more : (lefts rights : List SpanBox) (all rows new : List PairRow) (row : PairRow) (n : ℕ) (left right : SpanBox) (before path : Stack) → n < length lefts → n < length rights
    → ((d : SpanBox) → get_or lefts n d ≡ left) → ((d : SpanBox) → get_or rights n d ≡ right)
    → all ≡ rows ++ paired_rows before (drop n lefts) (drop n rights) → path ≡ next_path before left → row ≡ paired_row path left right → new ≡ rows ++ row ∷ []
    → all ≡ new ++ paired_rows path (drop (n + 1) lefts) (drop (n + 1) rights)
rows_more lefts rights all rows new row n left right before path l r is are so_far step made pushed =
    let one = left_of lefts n left l is in
    let other = left_of rights n right r are in
    let rest = paired_rows path (drop (n + 1) lefts) (drop (n + 1) rights) in
    so_far ∙ ((λ i. rows ++ paired_rows before (one i) (other i)) ∙
    ((λ i. rows ++ (paired_row (sym step i) left right ∷ paired_rows (sym step i) (drop (n + 1) lefts) (drop (n + 1) rights))) ∙
    (ap (λ first. rows ++ (first ∷ rest)) (sym made) ∙
    (sym (append_assoc rows (row ∷ []) rest) ∙ ap (λ some. some ++ rest) (sym pushed)))))

none_left : (before : Stack) (lefts : List SpanBox) → paired_rows before lefts [] ≡ []
none_left before [] = refl
none_left before (left ∷ lefts) = refl

-- no row is left
pub rows_all : (lefts rights : List SpanBox) (all rows : List PairRow) (n : ℕ) (before : Stack) → min (length lefts) (length rights) ≤ n →
    all ≡ rows ++ paired_rows before (drop n lefts) (drop n rights) → rows ≡ all
rows_all lefts rights all rows n before end so_far =
    let none : paired_rows before (drop n lefts) (drop n rights) ≡ [] =
    ⊎_elim
    (λ lt. ap (λ spans. paired_rows before spans (drop n rights)) (drop_all n lefts (omega (arith, end, lt))))
    (λ le. ap (λ spans. paired_rows before (drop n lefts) spans) (drop_all n rights (omega (arith, end, le))) ∙ none_left before (drop n lefts))
    (cases_lt (length lefts) (length rights)) in
    sym (so_far ∙ (ap (λ more. rows ++ more) none ∙ append-nil rows))

module _ (lefts rights : List SpanBox) (n : ℕ) (left right : SpanBox) (l : n < length lefts) (r : n < length rights) (is : (d : SpanBox) → get_or lefts n d ≡ left) (are : (d : SpanBox) → get_or rights n d ≡ right) where
  next_box : paired_boxes (drop n lefts) (drop n rights) ≡ paired_boxes (left ∷ drop (n + 1) lefts) (right ∷ drop (n + 1) rights)
  next_box = let one = left_of lefts n left l is in let other = left_of rights n right r are in λ i. paired_boxes (one i) (other i)

  -- one box more
  pub boxes_more : (all : List ComparedBox) (boxes new : List DrawnPair) (pair : DrawnPair) → all ≡ map compared_of boxes ++ paired_boxes (drop n lefts) (drop n rights)
      → compared_of pair ≡ record { span = right; before = left.weight } → 0 < right.weight → new ≡ boxes ++ pair ∷ []
      → all ≡ map compared_of new ++ paired_boxes (drop (n + 1) lefts) (drop (n + 1) rights)
  boxes_more all boxes new pair so_far made weighs pushed =
      let rest = paired_boxes (drop (n + 1) lefts) (drop (n + 1) rights) in
      let first : ComparedBox = record { span = right; before = left.weight } in
      let named : map compared_of new ≡ map compared_of boxes ++ compared_of pair ∷ [] = ap (map compared_of) pushed ∙ map_push compared_of boxes pair in
      so_far ∙ (ap (λ more. map compared_of boxes ++ more) next_box ∙
      (ap (λ b. map compared_of boxes ++ (if b then first ∷ rest else rest)) (lt-ltb 0 right.weight weighs) ∙
      (ap (λ one. map compared_of boxes ++ (one ∷ rest)) (sym made) ∙
      (sym (append_assoc (map compared_of boxes) (compared_of pair ∷ []) rest) ∙ ap (λ some. some ++ rest) (sym named)))))

  -- a box that weighs nothing
  pub boxes_same : (all boxes : List ComparedBox) → all ≡ boxes ++ paired_boxes (drop n lefts) (drop n rights) → right.weight ≤ 0
      → all ≡ boxes ++ paired_boxes (drop (n + 1) lefts) (drop (n + 1) rights)
  boxes_same all boxes so_far weightless =
      let pair : ComparedBox = record { span = right; before = left.weight } in
      let rest = paired_boxes (drop (n + 1) lefts) (drop (n + 1) rights) in
      so_far ∙ (ap (λ more. boxes ++ more) next_box ∙ ap (λ b. boxes ++ (if b then pair ∷ rest else rest)) (le-ltb 0 right.weight weightless))

no_box : (lefts : List SpanBox) → paired_boxes lefts [] ≡ []
no_box [] = refl
no_box (left ∷ lefts) = refl

-- no box is left
pub boxes_all : (lefts rights : List SpanBox) (all boxes : List ComparedBox) (n : ℕ) → min (length lefts) (length rights) ≤ n →
    all ≡ boxes ++ paired_boxes (drop n lefts) (drop n rights) → boxes ≡ all
boxes_all lefts rights all boxes n end so_far =
    let none : paired_boxes (drop n lefts) (drop n rights) ≡ [] =
    ⊎_elim
    (λ lt. ap (λ rest. paired_boxes rest (drop n rights)) (drop_all n lefts (omega (arith, end, lt))))
    (λ le. ap (λ rest. paired_boxes (drop n lefts) rest) (drop_all n rights (omega (arith, end, le))) ∙ no_box (drop n lefts))
    (cases_lt (length lefts) (length rights)) in
    sym (so_far ∙ (ap (λ more. boxes ++ more) none ∙ append-nil boxes))

-- a step to the next path
pub stepped : (path cut new : List (Bor (List ℕ))) (next : DrawnBox) → nat_eq next.depth 0 ≡ false → cut ≡ take (next.depth - 1) path → new ≡ cut ++ next.name ∷ [] → names_now new ≡ next_path (names_now path) (span_of next)
stepped path cut new next deep is pushed =
    let name = λ (lent : Bor (List ℕ)). lent.now in
    let front : names_now cut ≡ take (next.depth - 1) (names_now path) = ap names_now is ∙ sym (take-map name (next.depth - 1) path) in
    ap names_now pushed ∙ (map_push name cut next.name ∙ (ap (λ names. names ++ next.name.now ∷ []) front ∙
    sym (ap (λ b. if b then [] else take (next.depth - 1) (names_now path) ++ next.name.now ∷ []) deep)))

-- The pieces of a picture one after another, and each by itself.
use Rattle.std.proofs.Common.{◌≡◌, ℕ, ◌+◌, ◌<◌, Bool, true, false, cond, List, [], ◌∷◌, ◌++◌, length, get_or, map, refl, sym, ap, subst, ◌∙◌, add-one, append-nil}
use Rattle.std.proofs.lemmas.List.{get_or-map, get_or_append_left, length-map}
use Rattle.std.proofs.lemmas.List.Folds.{concat-append}
use Rattle.std.specs.List.{concat, flat_map}
use Rattle.flame_layout.specs.Boxes.{SeenBox}
use Rattle.svg_texts.specs.Svg.{Picture, is_drawn, drawn, box_line, heading, foot, svg_text}
use Rattle.svg_texts.specs.checked.Pieces.{box_piece, svg_pieces, IsTally}
use Rattle.svg_texts.specs.declared.frames.Tally.{Tally}

-- the lines of the boxes that are drawn
lines : (picture : Picture) (rows : ℕ) (boxes : List SeenBox) → concat (map (box_piece picture rows) boxes) ≡ flat_map (box_line picture rows) (drawn picture boxes)
lines picture rows [] = refl
lines picture rows (box ∷ boxes) = by (is_drawn picture box) (lines picture rows boxes)
  where
    by : (b : Bool) → concat (map (box_piece picture rows) boxes) ≡ flat_map (box_line picture rows) (drawn picture boxes)
        → cond b (box_line picture rows box) [] ++ concat (map (box_piece picture rows) boxes) ≡ flat_map (box_line picture rows) (cond b (box ∷ drawn picture boxes) (drawn picture boxes))
    by true later = ap (λ rest. box_line picture rows box ++ rest) later
    by false later = later

-- the text of a picture whose tally is known
pub pieces_text : (picture : Picture) (tally : Tally) (boxes : List SeenBox) → IsTally picture boxes tally → concat (svg_pieces picture tally boxes) ≡ svg_text picture boxes
unfolding svg_text
pieces_text picture tally boxes is =
    let pieces = map (box_piece picture tally.rows) boxes in
    let last = foot picture tally.rows tally.left_boxes tally.left_weight in
    let end : concat (pieces ++ last ∷ []) ≡ flat_map (box_line picture tally.rows) (drawn picture boxes) ++ last =
    concat-append pieces (last ∷ []) ∙ (λ i. lines picture tally.rows boxes i ++ append-nil last i) in
    ap (λ rest. heading picture tally.rows ++ rest) end
    ∙ (λ i. heading picture (is.rows i) ++ (flat_map (box_line picture (is.rows i)) (drawn picture boxes) ++ foot picture (is.rows i) (is.left_boxes i) (is.left_weight i)))

-- the piece of a box
pub piece_of_box : (picture : Picture) (tally : Tally) (boxes : List SeenBox) (at place : ℕ) (one : SeenBox) → at ≡ place + 1 → place < length boxes → one ≡ get_or boxes place one
    → get_or (svg_pieces picture tally boxes) at [] ≡ box_piece picture tally.rows one
piece_of_box picture tally boxes at place one is there one_is =
    let piece = box_piece picture tally.rows in
    let last = foot picture tally.rows tally.left_boxes tally.left_weight in
    ap (λ n. get_or (svg_pieces picture tally boxes) n []) (is ∙ add-one place)
    ∙ (get_or_append_left (map piece boxes) (last ∷ []) [] place (subst (λ n. place < n) (sym (length-map boxes piece)) there) ∙ (get_or-map piece boxes place one [] there ∙ ap piece (sym one_is)))

-- The pieces of a picture, and what has to be known of all its boxes before the first.
use Rattle.std.specs.Prelude.{◌≡◌, ℕ, List, [], ◌∷◌, ◌++◌, length, map, if◌then◌else◌}
use Rattle.flame_layout.specs.Boxes.{SeenBox}
use Rattle.svg_texts.specs.Svg.{Picture, is_drawn, drawn, left_out, rows_of, own_weight, box_line, heading, foot}
use Rattle.svg_texts.specs.declared.frames.Tally.{Tally}

-- the line of a box that is drawn, and nothing of another
abbrev pub box_piece : Picture → ℕ → SeenBox → List ℕ
box_piece picture rows box = if is_drawn picture box then box_line picture rows box else []

-- the heading, a piece for each box, and the foot
abbrev pub svg_pieces : Picture → Tally → List SeenBox → List (List ℕ)
svg_pieces picture tally boxes =
    heading picture tally.rows ∷ (map (box_piece picture tally.rows) boxes ++ foot picture tally.rows tally.left_boxes tally.left_weight ∷ [])

-- the rows of the boxes that are drawn, how many others there are, and their own weight
pub record IsTally (picture : Picture) (boxes : List SeenBox) (tally : Tally) : Type 0 where
  pub rows : tally.rows ≡ rows_of (drawn picture boxes)
  pub left_boxes : tally.left_boxes ≡ length (left_out picture boxes)
  pub left_weight : tally.left_weight ≡ own_weight (left_out picture boxes)

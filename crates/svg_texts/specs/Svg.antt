-- A picture in SVG: a line for each box that is drawn, between a heading and a foot that tells what is left out.
use Rattle.std.specs.Prelude.{ℕ, ◌+◌, ◌-◌, ◌*◌, max, Bool, ◌==◌, not, List, [], ◌∷◌, ◌++◌, length, map, codes, decimal, Option, None, Some, option_map, sum_by, if◌then◌else◌}
use Rattle.std.specs.List.{filter, flat_map}
use Rattle.flame_layout.specs.declared.boxes.SpanBox.{SpanBox}
use Rattle.flame_layout.specs.declared.boxes.ComparedBox.{ComparedBox}
use Rattle.flame_layout.specs.Boxes.{SeenBox, paired_box, plain_box}
use Rattle.flame_layout.specs.Edges.{left_edge, right_edge}
use Rattle.function_sums.specs.declared.changes.Change.{Change}
use Rattle.view_texts.specs.WeightTexts.{weight_text}
use Rattle.view_texts.specs.Shares.{share_text}
use Rattle.svg_texts.specs.Changes.{compared_fill, said_change}
use Rattle.svg_texts.specs.Shown.{shown}
use Rattle.svg_texts.specs.Labels.{room_on, label}
use Rattle.svg_texts.specs.Fills.{root_fill, name_fill}
use Rattle.svg_texts.specs.declared.changes.Compared.{Compared}

-- what stands round the boxes, and how they are placed; the boxes span the total, and where shares are compared, and not weights, the
-- profile before has one too
pub record Picture : Type 0 where
  pub title : List ℕ
  pub unit : List ℕ
  pub total : ℕ
  pub total_before : Option ℕ
  pub width : ℕ
  pub root_below : Bool

-- ---- which boxes are drawn, and where

abbrev pub left_of : Picture → SeenBox → ℕ
left_of picture box = left_edge picture.total picture.width box.span

abbrev pub right_of : Picture → SeenBox → ℕ
right_of picture box = right_edge picture.total picture.width box.span

-- the edges differ
abbrev pub is_drawn : Picture → SeenBox → Bool
is_drawn picture box = not (left_of picture box == right_of picture box)

abbrev pub drawn : Picture → List SeenBox → List SeenBox
drawn picture boxes = filter (is_drawn picture) boxes

abbrev pub left_out : Picture → List SeenBox → List SeenBox
left_out picture boxes = filter (λ box. not (is_drawn picture box)) boxes

-- how many rows some boxes take
abbrev pub rows_of : List SeenBox → ℕ
rows_of [] = 0
rows_of (box ∷ rest) = max (box.span.depth + 1) (rows_of rest)

-- a row is 18 pixels high; the heading and the foot have one each
abbrev pub height_of : ℕ → ℕ
height_of rows = 18 * (rows + 2)

abbrev pub top_of : Picture → ℕ → SeenBox → ℕ
top_of picture rows box = if picture.root_below then 18 * (rows - box.span.depth) else 18 * (box.span.depth + 1)

-- ---- what is said of a box

abbrev pub weight_in : Picture → ℕ → List ℕ
weight_in picture weight = weight_text (shown picture.unit) weight

abbrev pub name_in_tip : List ℕ → List ℕ
name_in_tip [] = codes "(empty name)"
name_in_tip (byte ∷ rest) = shown (byte ∷ rest)

-- a weight, and its part of a whole
abbrev pub part_in : Picture → ℕ → ℕ → List ℕ
part_in picture whole weight = weight_in picture weight ++ (codes ", " ++ share_text whole weight)

-- what both profiles weigh, where shares of that are compared
abbrev pub whole_of : Picture → Option Change
whole_of picture = option_map (λ before. record { before = before; after = picture.total }) picture.total_before

-- a path's weights before and after, with what is compared of them
abbrev pub compared_in : Picture → ℕ → ℕ → Compared
compared_in picture before after = record {
  weights = record { before = before; after = after };
  whole = whole_of picture;
}

-- the weights of a path in both profiles and the change, with the part of the whole after, or where shares are compared with both
abbrev pub both_in_tip : Picture → Option ℕ → ℕ → ℕ → List ℕ
both_in_tip picture None before after =
    codes "before " ++ (weight_in picture before ++ (codes ", after " ++ (weight_in picture after
    ++ (codes ", " ++ (said_change (compared_in picture before after) ++ (codes ", " ++ share_text picture.total after))))))
both_in_tip picture (Some total_before) before after =
    codes "before " ++ (part_in picture total_before before ++ (codes ", after " ++ (part_in picture picture.total after
    ++ (codes ", points " ++ said_change (compared_in picture before after)))))

abbrev pub weights_in_tip : Picture → ℕ → Option ℕ → List ℕ
weights_in_tip picture weight None = part_in picture picture.total weight
weights_in_tip picture weight (Some before) = both_in_tip picture picture.total_before before weight

-- what is shown of a box while it is pointed at
unfoldable pub tip : Picture → SeenBox → List ℕ
tip picture box =
    name_in_tip box.span.name
    ++ (codes ": " ++ (weights_in_tip picture box.span.weight box.before
    ++ (codes ", own " ++ weight_in picture box.span.own)))

-- what is compared of its path, where it is one of a comparison
abbrev pub change_of : Picture → SeenBox → Option Compared
change_of picture box = option_map (λ before. compared_in picture before box.span.weight) box.before

abbrev pub plain_fill : SpanBox → List ℕ
plain_fill span = if span.depth == 0 then root_fill else name_fill span.name

abbrev pub fill_with : SpanBox → Option Compared → List ℕ
fill_with span None = plain_fill span
fill_with span (Some compared) = compared_fill compared

abbrev pub fill_of : Picture → SeenBox → List ℕ
fill_of picture box = fill_with box.span (change_of picture box)

-- ---- the elements

unfoldable pub title_element : List ℕ → List ℕ
title_element text = codes "<title>" ++ (text ++ codes "</title>")

unfoldable pub rect_element : ℕ → ℕ → ℕ → List ℕ → List ℕ
rect_element left top width fill =
    codes "<rect x=\"" ++ (decimal left ++ (codes "\" y=\"" ++ (decimal top ++ (codes "\" width=\"" ++ (decimal width
    ++ (codes "\" height=\"17\" fill=\"" ++ (fill ++ codes "\"/>")))))))

unfoldable pub text_tag : ℕ → ℕ → List ℕ
text_tag left base = codes "<text x=\"" ++ (decimal left ++ (codes "\" y=\"" ++ (decimal base ++ codes "\">")))

abbrev pub text_element : ℕ → ℕ → List ℕ → List ℕ
text_element left base text = text_tag left base ++ (text ++ codes "</text>")

-- none without a label
abbrev pub label_element : ℕ → ℕ → List ℕ → List ℕ
label_element left base [] = []
label_element left base (byte ∷ rest) = text_element left base (byte ∷ rest)

abbrev pub rectangle_of : Picture → ℕ → SeenBox → List ℕ
rectangle_of picture rows box = rect_element (left_of picture box) (top_of picture rows box) (right_of picture box - left_of picture box) (fill_of picture box)

-- what stands on the rectangle
abbrev pub written_on : Picture → SeenBox → List ℕ
written_on picture box = label (room_on (right_of picture box - left_of picture box)) box.span.name (change_of picture box)

-- the line of a box
unfoldable pub box_line : Picture → ℕ → SeenBox → List ℕ
box_line picture rows box =
    codes "<g>"
    ++ (title_element (tip picture box)
    ++ (rectangle_of picture rows box
    ++ (label_element (left_of picture box + 4) (top_of picture rows box + 13) (written_on picture box)
    ++ codes "</g>\n")))

-- ---- the whole

unfoldable pub svg_tag : ℕ → ℕ → List ℕ
svg_tag width height =
    codes "<svg xmlns=\"http://www.w3.org/2000/svg\" width=\"" ++ (decimal width ++ (codes "\" height=\"" ++ (decimal height
    ++ (codes "\" viewBox=\"0 0 " ++ (decimal width ++ (codes " " ++ (decimal height ++ codes "\" font-family=\"monospace\" font-size=\"12\">")))))))

unfoldable pub paper_element : ℕ → ℕ → List ℕ
paper_element width height =
    codes "<rect width=\"" ++ (decimal width ++ (codes "\" height=\"" ++ (decimal height ++ codes "\" fill=\"#fbfbf9\"/>")))

-- the size, the title, the paper, and the title again where it is seen
unfoldable pub heading : Picture → ℕ → List ℕ
heading picture rows =
    svg_tag picture.width (height_of rows) ++ (codes "\n" ++ (title_element (shown picture.title)
    ++ (codes "\n" ++ (paper_element picture.width (height_of rows) ++ (codes "\n" ++ (text_element 4 15 (shown picture.title) ++ codes "\n"))))))

abbrev pub narrower_boxes : ℕ → List ℕ
narrower_boxes count = if count == 1 then codes " narrower box" else codes " narrower boxes"

-- what is told of boxes that are left out, if there are any; 194 and 183 are a dot between spaces
abbrev pub told_left_out : Picture → ℕ → ℕ → List ℕ
told_left_out picture count weight =
    if count == 0
    then []
    else (32 ∷ 194 ∷ 183 ∷ 32 ∷ []) ++ (decimal count ++ (narrower_boxes count
    ++ (codes " left out, in which " ++ (weight_in picture weight ++ codes " ends"))))

abbrev pub own_weight : List SeenBox → ℕ
own_weight boxes = sum_by (λ box. box.span.own) boxes

-- the total, and what is left out
abbrev pub foot_text : Picture → ℕ → ℕ → List ℕ
foot_text picture count weight = codes "total " ++ (weight_in picture picture.total ++ told_left_out picture count weight)

unfoldable pub foot : Picture → ℕ → ℕ → ℕ → List ℕ
foot picture rows count weight = text_element 4 (height_of rows - 5) (foot_text picture count weight) ++ codes "\n</svg>\n"

unfoldable pub svg_text : Picture → List SeenBox → List ℕ
svg_text picture boxes =
    let rows = rows_of (drawn picture boxes) in
    let others = left_out picture boxes in
    heading picture rows ++ (flat_map (box_line picture rows) (drawn picture boxes) ++ foot picture rows (length others) (own_weight others))

-- ---- the pictures of one profile and of a comparison

abbrev pub plain_svg : Picture → List SpanBox → List ℕ
plain_svg picture boxes = svg_text picture (map plain_box boxes)

abbrev pub compared_svg : Picture → List ComparedBox → List ℕ
compared_svg picture boxes = svg_text picture (map paired_box boxes)

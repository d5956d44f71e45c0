-- All tags of a text, and the tags that a picture has.
use Rattle.std.specs.Prelude.{ℕ, ◌+◌, ◌-◌, ◌==◌, List, [], ◌∷◌, ◌++◌, take, codes, if◌then◌else◌}
use Rattle.std.specs.List.{filter, flat_map}
use Rattle.std.specs.Str.{bytes_eq}
use Rattle.flame_layout.specs.Boxes.{SeenBox}
use Rattle.svg_texts.specs.Svg.{Picture, drawn, rows_of, height_of, left_of, top_of, rectangle_of, written_on, text_tag, svg_tag, paper_element}

-- ---- of a text

-- its front up to the first `>`, and with it
abbrev pub to_tag_end : List ℕ → List ℕ
to_tag_end [] = []
to_tag_end (byte ∷ rest) = byte ∷ (if byte == 62 then [] else to_tag_end rest)

-- what begins at each `<`, up to the next `>`
abbrev pub tags : List ℕ → List (List ℕ)
tags [] = []
tags (byte ∷ rest) = if byte == 60 then (byte ∷ to_tag_end rest) ∷ tags rest else tags rest

-- those of rectangles
abbrev pub rectangles : List (List ℕ) → List (List ℕ)
rectangles found = filter (λ tag. bytes_eq (take 5 tag) (codes "<rect")) found

-- ---- of a picture

-- none without a label
abbrev pub label_tags : ℕ → ℕ → List ℕ → List (List ℕ)
label_tags left base [] = []
label_tags left base (byte ∷ rest) = text_tag left base ∷ codes "</text>" ∷ []

abbrev pub box_tags : Picture → ℕ → SeenBox → List (List ℕ)
box_tags picture rows box =
    codes "<g>" ∷ codes "<title>" ∷ codes "</title>" ∷ rectangle_of picture rows box
    ∷ (label_tags (left_of picture box + 4) (top_of picture rows box + 13) (written_on picture box) ++ codes "</g>" ∷ [])

abbrev pub heading_tags : Picture → ℕ → List (List ℕ)
heading_tags picture rows =
    svg_tag picture.width (height_of rows) ∷ codes "<title>" ∷ codes "</title>" ∷ paper_element picture.width (height_of rows) ∷ text_tag 4 15 ∷ codes "</text>" ∷ []

abbrev pub foot_tags : ℕ → List (List ℕ)
foot_tags rows = text_tag 4 (height_of rows - 5) ∷ codes "</text>" ∷ codes "</svg>" ∷ []

abbrev pub svg_tags : Picture → List SeenBox → List (List ℕ)
svg_tags picture boxes =
    let rows = rows_of (drawn picture boxes) in
    heading_tags picture rows ++ (flat_map (box_tags picture rows) (drawn picture boxes) ++ foot_tags rows)

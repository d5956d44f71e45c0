-- A line of JSON by its kind, and its parts.
use Rattle.std.specs.Prelude.{ℕ, true, List, [], ◌∷◌, ◌++◌, map, codes, decimal, Option, None, Some}
use Rattle.serde_json.specs.Data.{Data, object, Members, member}
use Rattle.serde_json.specs.Written.{compact_text, members_text}
use Rattle.flame_layout.specs.Boxes.{SeenBox}
use Rattle.flame_layout.specs.declared.boxes.SpanBox.{SpanBox}
use Rattle.view_texts.specs.Json.{whole_number, list_data, box_data, compared_box_data, view_members, json_line}
use Rattle.view_texts.specs.declared.line_kinds.LineKind.{LineKind}
use Rattle.view_texts.specs.declared.line_kinds.LineKind.TheVariants.{Picture, Snapshot, Comparison}

abbrev pub data_with : ℕ → ℕ → SpanBox → Option ℕ → Data
data_with total width span None = box_data total width span
data_with total width span (Some before) = compared_box_data total width (record { span = span; before = before })

-- the value of a box, in an image of the width whose boxes span the total
abbrev pub seen_data : ℕ → ℕ → SeenBox → Data
seen_data total width box = data_with total width box.span box.before

-- what stands before the boxes
abbrev pub head_of : LineKind → List ℕ
head_of Picture = codes "{\"boxes\":["
head_of (Snapshot at) = codes "{\"at\":" ++ (decimal at ++ codes ",\"boxes\":[")
head_of (Comparison before) = codes "{\"before\":" ++ (decimal before ++ codes ",\"boxes\":[")

-- the members that each line ends with, the bracket after them, and the line feed
abbrev pub ending_of : List ℕ → ℕ → ℕ → List ℕ
ending_of view total width = members_text true (view_members view total width) ++ 10 ∷ []

-- a snapshot has its counts by source
abbrev pub counts_of : LineKind → List ℕ → List ℕ
counts_of Picture counts = []
counts_of (Snapshot at) counts = codes ",\"counts\":" ++ compact_text (list_data (map whole_number counts))
counts_of (Comparison before) counts = []

-- what stands after the boxes
abbrev pub tail_of : LineKind → List ℕ → List ℕ → ℕ → ℕ → List ℕ
tail_of kind counts view total width = 93 ∷ (counts_of kind counts ++ ending_of view total width)

-- the members of a line with these boxes
abbrev pub members_of : LineKind → List ℕ → List ℕ → ℕ → ℕ → List Data → Members
members_of Picture counts view total width boxes = member (codes "boxes") (list_data boxes) (view_members view total width)
members_of (Snapshot at) counts view total width boxes =
    member (codes "at") (whole_number at)
    (member (codes "boxes") (list_data boxes)
    (member (codes "counts") (list_data (map whole_number counts))
    (view_members view total width)))
members_of (Comparison before) counts view total width boxes =
    member (codes "before") (whole_number before)
    (member (codes "boxes") (list_data boxes)
    (view_members view total width))

-- the line is the compact text of one value, and a line feed
abbrev pub line_text : LineKind → List ℕ → List ℕ → ℕ → ℕ → List Data → List ℕ
line_text kind counts view total width boxes = json_line (object (members_of kind counts view total width boxes))

-- The boxes of a listing of the merged tree, as the code makes them.
use Rattle.std.specs.Prelude.{ℕ, ◌+◌, ◌==◌, List, [], ◌∷◌, codes, slice_index_or, if◌then◌else◌}
use Rattle.call_tree.specs.declared.listing.Visit.{Visit}
use Rattle.flame_layout.specs.declared.boxes.SpanBox.{SpanBox}

-- the box of a visit of the tree's listing
abbrev pub listed_box : List (List ℕ) → ℕ → Visit → SpanBox
listed_box names start visit = record {
  depth = visit.depth;
  name = (if visit.depth == 0 then codes "all" else slice_index_or names visit.frame []);
  start = start;
  weight = visit.total;
  own = visit.own;
}

-- the boxes of the visits in order, each from the sum of the own weights of the visits before it
abbrev pub listed_boxes : List (List ℕ) → ℕ → List Visit → List SpanBox
listed_boxes names start [] = []
listed_boxes names start (visit ∷ rest) = listed_box names start visit ∷ listed_boxes names (start + visit.own) rest

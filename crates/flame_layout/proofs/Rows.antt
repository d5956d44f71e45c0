-- worked examples, computed on the definitions
use Rattle.std.proofs.Common.{◌≡◌, ℕ, List, [], ◌∷◌, map, refl}
use Rattle.std.specs.Prelude.{codes}
use Rattle.call_tree.specs.PathSums.{total_of, own_of}
use Rattle.sample_tables.specs.declared.samples.Sample.{Sample}
use Rattle.flame_layout.specs.declared.boxes.SpanBox.{SpanBox}
use Rattle.flame_layout.specs.declared.boxes.PlacedBox.{PlacedBox}
use Rattle.flame_layout.specs.declared.boxes.PairRow.{PairRow}
use Rattle.merged_stacks.specs.Timeline.{Stack, timeline}
use Rattle.flame_layout.specs.Chart.{chart_of}
use Rattle.flame_layout.specs.Graph.{graph_of}
use Rattle.flame_layout.specs.Edges.{placed_at}
use Rattle.flame_layout.specs.declared.boxes.ComparedBox.{ComparedBox}
use Rattle.flame_layout.specs.Comparison.{comparison_of, compared_boxes_of}

abbrev taken : Stack → ℕ → Sample
taken stack weight = record { stack = stack; weight = weight }

abbrev spans : ℕ → List ℕ → ℕ → ℕ → ℕ → SpanBox
spans depth name start weight own = record { depth = depth; name = name; start = start; weight = weight; own = own }

abbrev row : Stack → ℕ → ℕ → ℕ → ℕ → PairRow
row path total_before total_after own_before own_after =
    record { path = path; total_before = total_before; total_after = total_after; own_before = own_before; own_after = own_after }

abbrev a : List ℕ
a = codes "a"

abbrev b : List ℕ
b = codes "b"

abbrev c : List ℕ
c = codes "c"

abbrev x : List ℕ
x = codes "x"

abbrev root : List ℕ
root = codes "all"

abbrev three : List Sample
three = taken (a ∷ b ∷ []) 1 ∷ taken (a ∷ c ∷ []) 1 ∷ taken (a ∷ b ∷ []) 1 ∷ []

pub runs_of_a_chart : chart_of (timeline (three ∷ [])) ≡
    spans 0 root 0 3 0 ∷ spans 1 a 0 3 0 ∷ spans 2 b 0 1 1 ∷ spans 2 c 1 1 1 ∷ spans 2 b 2 1 1 ∷ []
runs_of_a_chart = refl

pub graph_of_the_runs : graph_of (timeline (three ∷ [])) ≡
    spans 0 root 0 3 0 ∷ spans 1 a 0 3 0 ∷ spans 2 b 0 2 2 ∷ spans 2 c 2 1 1 ∷ []
graph_of_the_runs = refl

pub runs_under_other_parents : chart_of (timeline ((taken (a ∷ x ∷ []) 1 ∷ taken (b ∷ x ∷ []) 1 ∷ []) ∷ [])) ≡
    spans 0 root 0 2 0 ∷ spans 1 a 0 1 0 ∷ spans 2 x 0 1 1 ∷ spans 1 b 1 1 0 ∷ spans 2 x 1 1 1 ∷ []
runs_under_other_parents = refl

abbrev lines : List (List Sample)
lines = (taken (a ∷ []) 1 ∷ taken (c ∷ []) 0 ∷ taken (b ∷ []) 2 ∷ []) ∷ []

abbrev three_boxes : List SpanBox
three_boxes = spans 0 root 0 3 0 ∷ spans 1 a 0 1 1 ∷ spans 1 b 1 2 2 ∷ []

pub graph_of_three_lines : graph_of (timeline lines) ≡ three_boxes
graph_of_three_lines = refl

pub chart_of_three_lines : chart_of (timeline lines) ≡ three_boxes
chart_of_three_lines = refl

abbrev placed : SpanBox → ℕ → ℕ → PlacedBox
placed span left right =
    record { depth = span.depth; name = span.name; start = span.start; weight = span.weight; own = span.own; left = left; right = right }

pub edges_of_three_lines : map (placed_at 3 10) three_boxes ≡
    placed (spans 0 root 0 3 0) 0 10 ∷ placed (spans 1 a 0 1 1) 0 3 ∷ placed (spans 1 b 1 2 2) 3 10 ∷ []
edges_of_three_lines = refl

abbrev old : List Sample
old = taken (a ∷ []) 3 ∷ taken (b ∷ []) 1 ∷ []

abbrev new : List Sample
new = taken (a ∷ []) 1 ∷ taken (c ∷ []) 2 ∷ []

pub comparison : comparison_of old new ≡
    row [] 4 3 0 0 ∷ row (a ∷ []) 3 1 3 1 ∷ row (b ∷ []) 1 0 1 0 ∷ row (c ∷ []) 0 2 0 2 ∷ []
unfolding total_of own_of
comparison = refl

abbrev beside : ℕ → SpanBox → ComparedBox
beside before span = record { span = span; before = before }

pub comparison_boxes : compared_boxes_of old new ≡
    beside 4 (spans 0 root 0 3 0) ∷ beside 3 (spans 1 a 0 1 1) ∷ beside 0 (spans 1 c 1 2 2) ∷ []
unfolding total_of own_of
comparison_boxes = refl

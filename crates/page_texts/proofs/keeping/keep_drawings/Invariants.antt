-- the drawings so far
use Rattle.std.proofs.Common.{◌≡◌, map, take}
use Rattle.page_texts.specs.Page.{page_names}
use Rattle.page_texts.specs.Drawn.{drawing_of}
use Rattle.page_texts.specs.checked.Kept.{AreAllKept}
use Rattle.page_texts.proofs.keeping.keep_drawings.Given as goal

abbrev pub invariant-loop-drawing : goal.invariant-loop-drawing
invariant-loop-drawing g l =
    let done = map (drawing_of g.L.FlameBoxes.boxes) (take l.drawing-index l.drawings) in
    (l.names ≡ page_names done) × AreAllKept l.names done l.kept.items

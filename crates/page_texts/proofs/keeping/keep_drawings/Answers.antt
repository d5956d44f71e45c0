use Rattle.std.proofs.Common.{◌≡◌, ◌+◌, ◌++◌, ◌∷◌, [], map, take, arith}
use Rattle.std.proofs.lemmas.Grind.{common_steps}
use Rattle.std.proofs.lemmas.List.{map_more}
use Rattle.page_texts.specs.Drawn.{drawing_of}
use Rattle.page_texts.proofs.KeptDrawings.{kept_step}
use Rattle.page_texts.proofs.keeping.keep_drawings.Goals as goal

pub loop-drawing-preserved : goal.loop-drawing-preserved
loop-drawing-preserved g c =
    let stands_for = drawing_of g.L.FlameBoxes.boxes in
    let drawings = c.args.drawings.now in
    let at = c.loop-drawing.drawing-index in
    let item = c.drawing-item.result in
    let grown = map_more stands_for drawings at item (omega arith) in
    let done : map stands_for (take (at + 1) drawings) ≡ map stands_for (take at drawings) ++ stands_for item ∷ [] = grind (arith, common_steps, grown, c.drawing-item.is) in
    kept_step c.loop-drawing.names (map stands_for (take at drawings)) c.loop-drawing.kept.items c.loop-drawing.invariant.0 c.loop-drawing.invariant.1 (stands_for item) c.keep.new.names _
    c.in_ok-keep.ensures.names c.in_ok-keep.ensures.boxes _ _ done c.in_ok-push.ensures.items

use Rattle.std.proofs.Common.{◌<◌, [], ◌∷◌, ap, arith, length, sum_by, take, ◌∙◌}
use Rattle.std.proofs.lemmas.List.Sums.{sum_by-append, sum_by-cons}
use Rattle.flame_layout.specs.Boxes.{SeenBox, seen_of}
use Rattle.svg_texts.proofs.DrawnBoxes.{boxes_more}
use Rattle.write_tests.proofs.tests.boxes.own_weights_fit.Goals as goal

pub loop-place-preserved : goal.loop-place-preserved
loop-place-preserved g c =
    let boxes = g.L.FlameBoxes.boxes c.args.boxes.now in
    let place = c.loop-place.place in
    let one = seen_of c.get-own.result in
    let own = λ (box : SeenBox). box.span.own in
    let here : place < length boxes = omega (arith, c.count-place-end.ensures.is, c.loop-place-test.true) in
    let more = ap (sum_by own) (boxes_more boxes place one here c.get-own.ensures) ∙ sum_by-append own (take place boxes) (one ∷ []) in
    omega (arith, more, sum_by-cons own one [], c.loop-place.invariant, c.if-own-left.false)

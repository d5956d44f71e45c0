use Rattle.std.proofs.Common.{◌≡◌, ◌+◌, ◌<◌, ◌++◌, ◌∷◌, ◌∙◌, [], length, map, take, ap, sym, arith}
use Rattle.std.proofs.lemmas.List.{map_push, take_more}
use Rattle.flame_layout.specs.Boxes.{SeenBox, seen_of}
use Rattle.flame_layout.proofs.flame_boxes.span_boxes.Goals as goal

pub loop-place-preserved : goal.loop-place-preserved
loop-place-preserved g c =
    let boxes = g.L.FlameBoxes.boxes c.args.list.now in
    let place = c.loop-place.place in
    let one = seen_of c.get.result in
    let span = λ (seen : SeenBox). seen.span in
    let within : place < length boxes = omega (arith, c.count-place-end.ensures.is, c.loop-place-test.true) in
    let more : take (place + 1) boxes ≡ take place boxes ++ one ∷ [] = take_more boxes place one within ∙ ap (λ (box : SeenBox). take place boxes ++ box ∷ []) (sym (c.get.ensures one)) in
    c.in_ok-push.ensures.items ∙ ((λ i. c.loop-place.invariant i ++ c.in_ok-span_box.ensures i ∷ []) ∙ sym (ap (map span) more ∙ map_push span (take place boxes) one))

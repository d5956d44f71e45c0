use Rattle.std.proofs.Common.{◌+◌, ◌<◌, ◌≤◌, List, All, arith, length, rules, subst, sym, take}
use Rattle.std.proofs.lemmas.List.{take_all}
use Rattle.std.proofs.lemmas.List.Elements.{All-push}
use Rattle.flame_layout.specs.Boxes.{SeenBox, seen_of}
use Rattle.svg_texts.proofs.DrawnBoxes.{boxes_more}
use Rattle.write_tests.proofs.tests.boxes.are_within.Goals as goal

pub loop-place-preserved : goal.loop-place-preserved
loop-place-preserved g c =
    let boxes = g.L.FlameBoxes.boxes c.args.boxes.now in
    let place = c.loop-place.place in
    let one = seen_of c.get.result in
    let ends = λ (box : SeenBox). box.span.start + box.span.weight ≤ c.args.total in
    let here : place < length boxes = omega (arith, c.count-place-end.ensures.is, c.loop-place-test.true) in
    let fits : c.get.result.drawn.start + c.get.result.drawn.weight ≤ c.args.total = search rules in
    subst (λ (front : List SeenBox). All ends front) (sym (boxes_more boxes place one here c.get.ensures)) (All-push ends (take place boxes) one c.loop-place.invariant fits)

pub returns-then-total-gt0-clause-within : goal.returns-then-total-gt0-clause-within
returns-then-total-gt0-clause-within g c _ =
    let boxes = g.L.FlameBoxes.boxes c.args.boxes.now in
    subst (λ (all : List SeenBox). All (λ box. box.span.start + box.span.weight ≤ c.args.total) all)
    (take_all c.loop-place.place boxes (omega (arith, c.count-place-end.ensures.is, c.loop-place-test.false))) c.loop-place.invariant

use Rattle.std.proofs.Common.{◌≡◌, ◌+◌, ◌≤◌, true, false, length, take, sym, ap, ◌∙◌, subst, arith}
use Rattle.std.proofs.lemmas.List.{length-take}
use Rattle.flame_layout.specs.Boxes.{SeenBox, seen_of}
use Rattle.svg_texts.specs.Drawn.{picture_of}
use Rattle.svg_texts.specs.Svg.{drawn, is_drawn, left_out, own_weight, rows_of}
use Rattle.svg_texts.proofs.DrawnBoxes.{boxes_more, count_more, count_still, left_few, left_light, rows_more, rows_still, weight_more, weight_still}
use Rattle.svg_texts.proofs.tallies.tally_of.Goals as goal
use Rattle.svg_texts.proofs.tallies.tally_of.Goals.{then-is_drawn, else-is_drawn}

pub is_drawn-requires-clause-within : goal.is_drawn-requires-clause-within
is_drawn-requires-clause-within g c =
    let one = seen_of c.get-one.result in
    subst (λ (box : SeenBox). box.span.start + box.span.weight ≤ c.args.picture.now.total) (sym (c.get-one.ensures one)) (c.requires.within c.loop-place.place one (omega (arith, c.count-place-end.ensures)))

pub overflow_add-left_boxes : goal.overflow_add-left_boxes
overflow_add-left_boxes g c =
    let boxes = take c.loop-place.place (g.L.FlameBoxes.boxes c.args.boxes.now) in
    omega (arith, c.loop-place.invariant.left_boxes, left_few (picture_of c.args.picture.now) boxes, length-take c.loop-place.place (g.L.FlameBoxes.boxes c.args.boxes.now))

pub overflow_add-left_weight : goal.overflow_add-left_weight
overflow_add-left_weight g c =
    let picture = picture_of c.args.picture.now in
    let boxes = g.L.FlameBoxes.boxes c.args.boxes.now in
    let place = c.loop-place.place in
    let one = seen_of c.get-one.result in
    let is : is_drawn picture one ≡ false = sym c.is_drawn.ensures ∙ c.if-is_drawn.false in
    let more = boxes_more boxes place one (omega (arith, c.count-place-end.ensures)) c.get-one.ensures in
    let weight = ap (λ all. own_weight (left_out picture all)) more ∙ weight_more picture (take place boxes) one is in
    omega (arith, c.loop-place.invariant.left_weight, weight, left_light picture boxes (place + 1), c.requires.own)

pub loop-place-preserved : goal.loop-place-preserved
loop-place-preserved g c =
    let picture = picture_of c.args.picture.now in
    let boxes = g.L.FlameBoxes.boxes c.args.boxes.now in
    let place = c.loop-place.place in
    let one = seen_of c.get-one.result in
    let so_far = c.loop-place.invariant in
    let more = boxes_more boxes place one (omega (arith, c.count-place-end.ensures)) c.get-one.ensures in
    elim c.if-is_drawn.branch [
      | then-is_drawn w ↦
          (let is : is_drawn picture one ≡ true = sym c.is_drawn.ensures ∙ w.if-is_drawn.true in
          let rows = ap (λ all. rows_of (drawn picture all)) more ∙ rows_more picture (take place boxes) one is in
          record {
            rows = w.rows-is ∙ omega (arith, rows, w.max-rows.ensures, w.from.ensures, so_far.rows);
            few = omega (arith, w.rows-is, w.max-rows.ensures, w.from.ensures, so_far.few);
            left_boxes = w.left_boxes-is ∙ (so_far.left_boxes ∙ sym (ap (λ all. length (left_out picture all)) more ∙ count_still picture (take place boxes) one is));
            left_weight = w.left_weight-is ∙ (so_far.left_weight ∙ sym (ap (λ all. own_weight (left_out picture all)) more ∙ weight_still picture (take place boxes) one is));
          })
      | else-is_drawn w ↦
          (let is : is_drawn picture one ≡ false = sym c.is_drawn.ensures ∙ w.if-is_drawn.false in
          let count = ap (λ all. length (left_out picture all)) more ∙ count_more picture (take place boxes) one is in
          let weight = ap (λ all. own_weight (left_out picture all)) more ∙ weight_more picture (take place boxes) one is in
          record {
            rows = w.rows-is ∙ (so_far.rows ∙ sym (ap (λ all. rows_of (drawn picture all)) more ∙ rows_still picture (take place boxes) one is));
            few = omega (arith, w.rows-is, so_far.few);
            left_boxes = omega (arith, w.left_boxes-is, so_far.left_boxes, count);
            left_weight = omega (arith, w.left_weight-is, so_far.left_weight, weight);
          })
    ]

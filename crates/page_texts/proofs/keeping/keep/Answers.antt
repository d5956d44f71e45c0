use Rattle.std.proofs.Common.{◌≡◌, ◌+◌, ◌++◌, ◌∷◌, [], map, take, arith, refl, subst, sym, ap, ◌∙◌}
use Rattle.std.proofs.lemmas.List.{map_more}
use Rattle.flame_layout.specs.Boxes.{SeenBox, seen_of}
use Rattle.page_texts.specs.Drawn.{page_box}
use Rattle.page_texts.proofs.Names.{KeptSoFar, kept_step, left_step}
use Rattle.page_texts.proofs.keeping.keep.Goals as goal
use Rattle.page_texts.proofs.keeping.keep.Goals.{then-item-least, else-item-least+in_ok-kept_box+in_ok-push}

pub loop-place-preserved : goal.loop-place-preserved
loop-place-preserved g c =
    let boxes = g.L.FlameBoxes.boxes c.args.boxes.now in
    let at = c.loop-place.place in
    let item = seen_of c.get-item.result in
    let done : map page_box (take (at + 1) boxes) ≡ map page_box (take at boxes) ++ page_box item ∷ [] =
    map_more page_box boxes at item (omega (arith, c.count-place-end.ensures.is)) ∙ ap (λ (box : SeenBox). map page_box (take at boxes) ++ page_box box ∷ []) (sym (c.get-item.ensures item)) in
    let so_far = c.loop-place.invariant in
    elim c.if-item-least.branch [
      | then-item-least w ↦
          let is = w.answer-is in (
            left_step _ _ _ _ _ _ _ so_far.0 (page_box item) item.span.weight refl w.if-item-least.true _ _ _ _ _ w.from.result
                w.names-is done (ap (λ a. a.boxes.items) is) (ap (λ a. a.left_boxes) is) (ap (λ a. a.left_weight) is) w.from.ensures,
            omega (arith, ap (λ a. a.left_boxes) is, so_far.1),
            omega (arith, ap (λ a. a.left_weight) is, so_far.2, w.from.ensures),
          )
      | else-item-least+in_ok-kept_box+in_ok-push w ↦
          let is = w.answer-is in
          let made = w.in_ok-kept_box.ensures in
          let pushed = w.in_ok-push.ensures.items in
          let all = map page_box (take (at + 1) boxes) in
          let kept = kept_step _ _ _ _ _ _ _ so_far.0 (page_box item) item.span.weight refl (omega (arith, w.if-item-least.false)) w.kept_box.new.names _ c.if-item-least.answer.boxes.items w.in_ok-kept_box.field-0
          made.names made.named made.kept done (ap (λ a. a.boxes.items) is ∙ pushed) in (
            subst (λ n. KeptSoFar c.args.names.now n c.args.least all c.if-item-least.answer.boxes.items c.if-item-least.answer.left_boxes c.if-item-least.answer.left_weight) (sym w.names-is)
                (subst (λ n. KeptSoFar c.args.names.now w.kept_box.new.names c.args.least all c.if-item-least.answer.boxes.items n c.if-item-least.answer.left_weight) (sym (ap (λ a. a.left_boxes) is))
                (subst (λ n. KeptSoFar c.args.names.now w.kept_box.new.names c.args.least all c.if-item-least.answer.boxes.items c.loop-place.answer.left_boxes n) (sym (ap (λ a. a.left_weight) is)) kept)),
            omega (arith, ap (λ a. a.left_boxes) is, so_far.1),
            omega (arith, ap (λ a. a.left_weight) is, so_far.2),
          )
    ]

use Rattle.std.proofs.Common.{codes, ◌++◌, ap, ◌∙◌, ◌∷◌, [], refl}
use Rattle.std.proofs.lemmas.Result.{on_ok_weaker}
use Rattle.page_texts.specs.declared.kept_boxes.Column.TheVariants.{Gap, Name, Rest, Tail, Up}
use Rattle.page_texts.specs.checked.Kept.{moment_text, first_text, other_text, last_text, column_text, number_text}
use Rattle.page_texts.specs.checked.Parts.{parts_text}
use Rattle.page_texts.proofs.DrawingTexts.{four_in_turn, five_in_turn}
use Rattle.page_texts.proofs.drawings.push_drawing.Goals as goal

pub returns : goal.returns
returns g c =
    let drawing = c.args.drawing.now in
    let kept = c.args.kept.now in
    let first = five_in_turn (parts_text c.push_moment.new.parts.items) (column_text (codes "\"gap\":") Gap kept.boxes.items) (number_text (codes ",\"least\":") drawing.least) (number_text (codes ",\"left_out\":{\"boxes\":") kept.left_boxes)
    (number_text (codes ",\"weight\":") kept.left_weight) (column_text (codes "},\"name\":") Name kept.boxes.items)
    (parts_text c.push_column.new.parts.items) (parts_text c.push_number.new.parts.items) (parts_text c.push_number-2.new.parts.items) (parts_text c.push_number-3.new.parts.items) (parts_text c.push_column-2.new.parts.items)
    (c.in_ok-push_column.ensures ∙ ap (λ xs. parts_text c.push_moment.new.parts.items ++ column_text (codes "\"gap\":") Gap xs) c.deref.ensures.value)
    (c.in_ok-push_number.ensures ∙ ap (λ n. parts_text c.push_column.new.parts.items ++ number_text (codes ",\"least\":") n) c.from.ensures) c.in_ok-push_number-2.ensures c.in_ok-push_number-3.ensures
    (c.in_ok-push_column-2.ensures ∙ ap (λ xs. parts_text c.push_number-3.new.parts.items ++ column_text (codes "},\"name\":") Name xs) c.deref-2.ensures.value) in
    on_ok_weaker c.push_literal.result
    (λ end. four_in_turn (parts_text c.args.parts.now.items) (moment_text drawing.moment) (first_text kept drawing.least) (other_text drawing.is_compared kept) (last_text kept drawing.total) _
    (parts_text c.push_moment.new.parts.items) (parts_text c.push_column-2.new.parts.items) (parts_text c.push_other.new.parts.items) (parts_text c.push_literal.new.parts.items)
    c.in_ok-push_moment.ensures first c.in_ok-push_other.ensures
    (five_in_turn (parts_text c.push_other.new.parts.items) (column_text (codes ",\"rest\":") Rest kept.boxes.items) (column_text (codes ",\"tail\":") Tail kept.boxes.items) (number_text (codes ",\"total\":") drawing.total)
    (column_text (codes ",\"up\":") Up kept.boxes.items) (125 ∷ [])
    (parts_text c.push_column-3.new.parts.items) (parts_text c.push_column-4.new.parts.items) (parts_text c.push_number-4.new.parts.items) (parts_text c.push_column-5.new.parts.items) (parts_text c.push_literal.new.parts.items)
    (c.in_ok-push_column-3.ensures ∙ ap (λ xs. parts_text c.push_other.new.parts.items ++ column_text (codes ",\"rest\":") Rest xs) c.deref-3.ensures.value)
    (c.in_ok-push_column-4.ensures ∙ ap (λ xs. parts_text c.push_column-3.new.parts.items ++ column_text (codes ",\"tail\":") Tail xs) c.deref-4.ensures.value)
    (c.in_ok-push_number-4.ensures ∙ ap (λ n. parts_text c.push_column-4.new.parts.items ++ number_text (codes ",\"total\":") n) c.from-2.ensures)
    (c.in_ok-push_column-5.ensures ∙ ap (λ xs. parts_text c.push_number-4.new.parts.items ++ column_text (codes ",\"up\":") Up xs) c.deref-5.ensures.value)
    end)
    refl)
    c.push_literal.ensures

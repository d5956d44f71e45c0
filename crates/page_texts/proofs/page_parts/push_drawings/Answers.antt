use Rattle.std.proofs.Common.{◌≡◌, [], ◌∷◌, false, map, take, arith, ◌++◌, ◌∙◌, sym, ap}
use Rattle.std.specs.Prelude.{nat_lt}
use Rattle.std.proofs.lemmas.List.{take_all}
use Rattle.std.proofs.lemmas.Result.{on_ok_weaker}
use Rattle.serde_json.specs.View.{items_of}
use Rattle.serde_json.specs.Written.{comma_if}
use Rattle.page_texts.specs.Page.{drawing_data}
use Rattle.page_texts.specs.Drawn.{drawing_of, page_box}
use Rattle.page_texts.specs.checked.Parts.{parts_text}
use Rattle.page_texts.specs.checked.SafeText.{safe_items, safe_text, values_text}
use Rattle.page_texts.proofs.DrawingTexts.{drawing_text}
use Rattle.page_texts.proofs.KeptDrawings.{kept_at}
use Rattle.page_texts.proofs.PartLists.{values_text-next, items_text-items_of}
use Rattle.page_texts.proofs.PageTexts.{list_step, list_end, maps_are_one}
use Rattle.page_texts.proofs.page_parts.push_drawings.Goals as goal

pub loop-at-preserved : goal.loop-at-preserved
loop-at-preserved g c names all =
    let stands_for = drawing_of g.L.FlameBoxes.boxes in
    let drawings = c.args.drawings.now in
    let at = c.loop-at.at in
    let drawing = c.index-drawings-at.result in
    let answer = c.index-kept-at.result in
    let more = values_text-next false (λ d. drawing_data names (stands_for d)) drawings at drawing (omega arith) in
    let keeps = kept_at names stands_for drawings c.args.kept.now at drawing answer all (omega arith) c.index-drawings-at.is c.index-kept-at.is in
    let text = drawing_text names drawing.moment drawing.is_compared drawing.least drawing.total (map page_box (g.L.FlameBoxes.boxes drawing.boxes)) answer keeps in
    list_step (parts_text c.push_literal.new.parts.items) _ (comma_if (nat_lt 0 at)) _ _ (parts_text c.loop-at.parts.items) (parts_text c.push_literal-in-loop-at.new.parts.items) (parts_text c.push_drawing.new.parts.items)
    (c.loop-at.invariant names all) (c.in_ok-push_literal-2.ensures ∙ ap (λ t. parts_text c.loop-at.parts.items ++ t) c.comma_if.ensures)
    (c.in_ok-push_drawing.ensures ∙ ap (λ t. parts_text c.push_literal-in-loop-at.new.parts.items ++ t) (sym text ∙ ap (λ d. safe_text (drawing_data names (stands_for d))) c.index-drawings-at.is))
    more

pub returns : goal.returns
returns g c =
    let stands_for = drawing_of g.L.FlameBoxes.boxes in
    let drawings = c.args.drawings.now in
    let done : take c.loop-at.at drawings ≡ drawings = take_all c.loop-at.at drawings (omega arith) in
    on_ok_weaker c.push_literal-2.result
    (λ last names all.
    let values = map (λ d. drawing_data names (stands_for d)) drawings in
    list_end (parts_text c.args.parts.now.items) (91 ∷ []) (values_text false values) _ (parts_text c.push_literal.new.parts.items) (parts_text c.loop-at.parts.items) (parts_text c.push_literal-2.new.parts.items)
    c.in_ok-push_literal.ensures (c.loop-at.invariant names all ∙ ap (λ ds. parts_text c.push_literal.new.parts.items ++ values_text false (map (λ d. drawing_data names (stands_for d)) ds)) done) last
    (ap (λ ds. safe_items false (items_of ds)) (maps_are_one stands_for (drawing_data names) drawings) ∙ items_text-items_of false values))
    c.push_literal-2.ensures

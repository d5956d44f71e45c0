use Rattle.std.proofs.Common.{◌++◌, ◌∷◌, [], codes, map, length, ap, sym, subst, ◌∙◌}
use Rattle.std.proofs.lemmas.List.{length-map}
use Rattle.std.proofs.lemmas.Result.{on_ok_weaker}
use Rattle.serde_json.specs.Data.{string}
use Rattle.page_texts.specs.Page.{drawing_data, list_data, source_data}
use Rattle.page_texts.specs.Drawn.{drawing_of, page_of}
use Rattle.page_texts.specs.checked.Kept.{AreAllKept, number_text, opening_text}
use Rattle.page_texts.specs.checked.Parts.{parts_text}
use Rattle.page_texts.specs.checked.SafeText.{safe_text}
use Rattle.page_texts.proofs.KeptDrawings.{as_many}
use Rattle.page_texts.proofs.PageTexts.{list_after, text_after, page_parts, more_text, ten_in_turn, sources_same}
use Rattle.page_texts.proofs.page_parts.push_page.Goals as goal

pub push_drawings-requires : goal.push_drawings-requires
push_drawings-requires g c =
    let kept = c.args.kept.now in
    let drawings = c.args.page.now.drawings.now in
    let stands_for = drawing_of g.L.FlameBoxes.boxes in
    sym (length-map drawings stands_for) ∙ as_many kept.names (map stands_for drawings) kept.drawings.items c.requires.1 ∙ ap length (sym c.deref.ensures.value)

pub returns : goal.returns
returns g c =
    let page = page_of g.L.FlameBoxes.boxes c.args.page.now in
    let names = c.args.kept.now.names in
    let all = subst (AreAllKept names page.drawings) (sym c.deref.ensures.value) c.requires.1 in
    on_ok_weaker c.push_literal-2.result
    (λ last. ten_in_turn (parts_text c.args.parts.now.items) (codes "{\"drawings\":") (safe_text (list_data (map (drawing_data names) page.drawings))) (more_text page.has_more) (list_after (codes ",\"names\":") (map string names)) (opening_text page.is_root_below page.is_share) (list_after (codes ",\"sources\":") (map source_data page.sources))
    (text_after (codes ",\"title\":") page.title) (text_after (codes ",\"view\":") page.view) (number_text (codes ",\"whole\":") page.whole) (125 ∷ []) _
    (parts_text c.push_literal.new.parts.items) (parts_text c.push_drawings.new.parts.items) (parts_text c.push_if.new.parts.items) (parts_text c.push_names.new.parts.items) (parts_text c.push_opening.new.parts.items) (parts_text c.push_sources.new.parts.items) (parts_text c.push_behind.new.parts.items) (parts_text c.push_behind-2.new.parts.items) (parts_text c.push_number.new.parts.items) (parts_text c.push_literal-2.new.parts.items)
    c.in_ok-push_literal.ensures (c.in_ok-push_drawings.ensures names all) c.in_ok-push_if.ensures c.in_ok-push_names.ensures c.in_ok-push_opening.ensures
    (c.in_ok-push_sources.ensures ∙ ap (λ ds. parts_text c.push_opening.new.parts.items ++ list_after (codes ",\"sources\":") ds) (sources_same c.args.page.now.sources.now))
    c.in_ok-push_behind.ensures c.in_ok-push_behind-2.ensures c.in_ok-push_number.ensures last
    (page_parts page names c.requires.0))
    c.push_literal-2.ensures

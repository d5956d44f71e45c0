use Rattle.std.proofs.Common.{codes, ◌∷◌, [], ◌++◌, ap, sym, ◌∙◌}
use Rattle.std.proofs.lemmas.Result.{on_ok_weaker}
use Rattle.page_texts.specs.Drawn.{source_of}
use Rattle.page_texts.specs.checked.Kept.{number_text}
use Rattle.page_texts.specs.checked.Parts.{parts_text}
use Rattle.page_texts.proofs.DrawingTexts.{five_in_turn}
use Rattle.page_texts.proofs.PageTexts.{text_after, source_text}
use Rattle.page_texts.proofs.page_parts.push_source.Goals as goal

pub returns : goal.returns
returns c =
    let source = source_of c.args.source.now in
    on_ok_weaker c.push_literal.result
    (λ last. five_in_turn (parts_text c.args.parts.now.items) (text_after (codes "{\"name\":") source.name) (text_after (codes ",\"type\":") source.type_name) (text_after (codes ",\"unit\":") source.unit) (number_text (codes ",\"weight\":") source.weight) (125 ∷ [])
    (parts_text c.push_behind.new.parts.items) (parts_text c.push_behind-2.new.parts.items) (parts_text c.push_behind-3.new.parts.items) (parts_text c.push_number.new.parts.items) (parts_text c.push_literal.new.parts.items)
    c.in_ok-push_behind.ensures c.in_ok-push_behind-2.ensures c.in_ok-push_behind-3.ensures
    (c.in_ok-push_number.ensures ∙ ap (λ n. parts_text c.push_behind-3.new.parts.items ++ number_text (codes ",\"weight\":") n) c.from.ensures) last
    ∙ ap (λ t. parts_text c.args.parts.now.items ++ t) (sym (source_text source)))
    c.push_literal.ensures

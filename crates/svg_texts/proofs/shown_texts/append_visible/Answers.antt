use Rattle.std.proofs.Common.{◌≡◌, ◌++◌, cond, [], ◌∷◌, ap, sym, ◌∙◌}
use Rattle.svg_texts.specs.Shown.{number_text, visible_character, xml_text}
use Rattle.view_texts.proofs.Fronts.{on_ok_if}
use Rattle.svg_texts.proofs.Plain.{number-plain, text-plain}
use Rattle.svg_texts.proofs.shown_texts.append_visible.Goals as goal

pub returns-then-is_unseen-clause-ok : goal.returns-then-is_unseen-clause-ok
returns-then-is_unseen-clause-ok c =
    let start = c.args.out.now.items in
    let character = c.args.character in
    let number : visible_character character ≡ number_text character = ap (λ unseen. cond unseen (number_text character) (character ∷ [])) (sym c.is_unseen.ensures ∙ c.if-is_unseen.true) in
    let text : number_text character ≡ xml_text (visible_character character) = sym (text-plain (number_text character) (number-plain character)) ∙ ap xml_text (sym number) in
    on_ok_if c.extend_from_slice.result _ start c.number_text.result c.extend_from_slice.ensures.items
    (λ is. is ∙ ap (λ text. start ++ text) (c.number_text.ensures ∙ text))

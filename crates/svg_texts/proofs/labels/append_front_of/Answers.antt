use Rattle.std.proofs.Common.{◌≡◌, ◌++◌, cond, [], ◌∷◌, min, take, ap, sym, ◌∙◌}
use Rattle.svg_texts.specs.Labels.{front}
use Rattle.svg_texts.specs.Shown.{number_text, visible_character, xml_text}
use Rattle.view_texts.proofs.Fronts.{on_ok_if}
use Rattle.svg_texts.proofs.Plain.{front-number}
use Rattle.svg_texts.proofs.labels.append_front_of.Goals as goal

pub returns-then-is_unseen-clause-ok : goal.returns-then-is_unseen-clause-ok
returns-then-is_unseen-clause-ok c =
    let start = c.args.out.now.items in
    let character = c.args.character in
    let number : visible_character character ≡ number_text character = ap (λ unseen. cond unseen (number_text character) (character ∷ [])) (sym c.is_unseen.ensures ∙ c.if-is_unseen.true) in
    let part : take (min c.args.room 8) (number_text character) ≡ xml_text (front c.args.room (visible_character character)) =
    sym (front-number c.args.room character) ∙ ap (λ text. xml_text (front c.args.room text)) (sym number) in
    on_ok_if c.extend_from_slice.result _ start (take c.min.result c.number_text.result) c.extend_from_slice.ensures.items
    (λ is. is ∙ ((λ i. start ++ take (c.min.ensures i) (c.number_text.ensures i)) ∙ ap (λ text. start ++ text) part))

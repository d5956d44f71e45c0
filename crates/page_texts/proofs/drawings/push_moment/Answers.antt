use Rattle.std.proofs.Common.{◌≡◌, ◌++◌, ◌∷◌, [], Some, codes, map, ap, sym, ◌∙◌, rules}
use Rattle.std.proofs.lemmas.Result.{on_ok_weaker}
use Rattle.page_texts.specs.Page.{list_data, whole_number}
use Rattle.page_texts.specs.checked.Kept.{moment_text, number_text}
use Rattle.page_texts.specs.checked.Parts.{parts_text}
use Rattle.page_texts.specs.checked.SafeText.{safe_text}
use Rattle.page_texts.proofs.DrawingTexts.{three_in_turn}
use Rattle.page_texts.proofs.drawings.push_moment.Goals as goal

pub returns-in_ok-push_numbers-in-Some : goal.returns-in_ok-push_numbers-in-Some
returns-in_ok-push_numbers-in-Some c =
    let moment = c.in-Some.moment in
    let is : c.args.moment ≡ Some moment = search rules in
    on_ok_weaker c.push_literal-in-Some.result
    (λ last. three_in_turn (parts_text c.args.parts.now.items) (number_text (codes "{\"at\":") moment.at) (codes ",\"counts\":" ++ safe_text (list_data (map whole_number moment.counts.now))) (44 ∷ [])
    (parts_text c.push_number.new.parts.items) (parts_text c.push_numbers.new.parts.items) (parts_text c.push_literal-in-Some.new.parts.items)
    (c.in_ok-push_number-in-Some.ensures ∙ ap (λ n. parts_text c.args.parts.now.items ++ number_text (codes "{\"at\":") n) c.from.ensures) c.in_ok-push_numbers-in-Some.ensures last
    ∙ ap (λ m. parts_text c.args.parts.now.items ++ moment_text m) (sym is))
    c.push_literal-in-Some.ensures

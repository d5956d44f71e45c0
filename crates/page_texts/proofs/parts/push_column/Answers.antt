use Rattle.std.proofs.Common.{◌≡◌, ◌+◌, ◌-◌, ◌++◌, ◌∷◌, ◌∙◌, List, codes, length, refl, false, map, take, drop, ap, ap₂, sym, arith, append_assoc}
use Rattle.std.specs.Prelude.{nat_lt}
use Rattle.std.proofs.lemmas.List.{length-drop, take_all}
use Rattle.std.proofs.lemmas.Result.{on_ok_weaker}
use Rattle.page_texts.specs.Page.{whole_number}
use Rattle.page_texts.specs.declared.kept_boxes.KeptBox.{KeptBox}
use Rattle.page_texts.specs.checked.Kept.{no_kept, numbers_of}
use Rattle.page_texts.specs.checked.Parts.{parts_text}
use Rattle.page_texts.specs.checked.SafeText.{values_text}
use Rattle.page_texts.proofs.Columns.{numbers-length, numbers-drop}
use Rattle.page_texts.proofs.PageTexts.{list_end}
use Rattle.page_texts.proofs.PartLists.{items_text-items_of, values_text-run, front_and_run}
use Rattle.page_texts.proofs.parts.push_column.Goals as goal

pub loop-at-preserved : goal.loop-at-preserved
loop-at-preserved c =
    let boxes = c.args.boxes.now in
    let at = c.loop-at.at in
    let count = c.min-count.result in
    let numbers = numbers_of c.args.column no_kept boxes in
    let long : length numbers ≡ length boxes = numbers-length c.args.column no_kept boxes in
    let run = values_text (nat_lt 0 at) (map whole_number (take count (drop at numbers))) in
    let longer = values_text-run whole_number numbers (take count (drop at numbers)) at (at + count) (omega (arith, long)) (front_and_run numbers at count) in
    let text_of = λ (first : KeptBox) (behind : List KeptBox). values_text (nat_lt 0 at) (map whole_number (take count (numbers_of c.args.column first behind))) in
    let behind : take (length boxes - at) (drop at boxes) ≡ drop at boxes = take_all (length boxes - at) (drop at boxes) (omega (arith, length-drop at boxes)) in
    let told : text_of c.before_at.result (take (length boxes - at) (drop at boxes)) ≡ run =
    ap₂ text_of c.before_at.ensures behind ∙ ap (λ ns. values_text (nat_lt 0 at) (map whole_number (take count ns))) (numbers-drop c.args.column no_kept boxes at) in (
      omega (arith, c.min-count.ensures),
      c.in_ok-push_part.ensures ∙ ap (λ t. parts_text c.loop-at.parts.items ++ t) told ∙ ap (λ t. t ++ run) c.loop-at.invariant.1
          ∙ append_assoc (parts_text c.push_literal-2.new.parts.items) (values_text false (map whole_number (take at numbers))) run
          ∙ ap (λ t. parts_text c.push_literal-2.new.parts.items ++ t) (sym longer),
    )

pub returns : goal.returns
returns c =
    let boxes = c.args.boxes.now in
    let numbers = numbers_of c.args.column no_kept boxes in
    let long : length numbers ≡ length boxes = numbers-length c.args.column no_kept boxes in
    let all : take c.loop-at.at numbers ≡ numbers = take_all c.loop-at.at numbers (omega (arith, long, c.loop-at-test.false)) in
    on_ok_weaker c.push_literal-3.result
    (λ last. list_end (parts_text c.args.parts.now.items) (c.args.piece.now ++ codes "[") (values_text false (map whole_number numbers)) _ (parts_text c.push_literal-2.new.parts.items) (parts_text c.loop-at.parts.items) (parts_text c.push_literal-3.new.parts.items)
    (c.in_ok-push_literal-2.ensures ∙ ap (λ t. t ++ codes "[") c.in_ok-push_literal.ensures ∙ append_assoc (parts_text c.args.parts.now.items) c.args.piece.now (codes "["))
    (c.loop-at.invariant.1 ∙ ap (λ xs. parts_text c.push_literal-2.new.parts.items ++ values_text false (map whole_number xs)) all) last refl
    ∙ ap (λ t. parts_text c.args.parts.now.items ++ t) (append_assoc c.args.piece.now (codes "[") _ ∙ ap (λ t. c.args.piece.now ++ 91 ∷ t) (sym (items_text-items_of false (map whole_number numbers)))))
    c.push_literal-3.ensures

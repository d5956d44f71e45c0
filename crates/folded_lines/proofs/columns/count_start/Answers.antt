use Rattle.std.proofs.Common.{◌<◌, ap, drop, sym, ◌∙◌, arith}
use Rattle.std.specs.List.{list_all}
use Rattle.folded_lines.specs.checked.Cutting.{is_digit_or_point}
use Rattle.folded_lines.proofs.EndNumbers.{columns_at_blank, ends_apart, ends_at_blank, ends_nowhere}
use Rattle.folded_lines.proofs.columns.count_start.Goals as goal
use Rattle.folded_lines.proofs.columns.count_start.Goals.{then-start-eq0-via-then-start-eq0, then-start-eq0-via-else-start-eq0+then-not-is_blank, then-start-eq0-via-else-start-eq0+else-not-is_blank+then-not-is_number}

pub returns-then-start-eq0-clause-found : goal.returns-then-start-eq0-clause-found
returns-then-start-eq0-clause-found c =
    let text = c.args.text.now in
    let start = c.number_start-start.result in
    let here = c.number_start-start.ensures in
    elim c.then-start-eq0.branch [
      | then-start-eq0-via-then-start-eq0 w ↦ sym (ends_nowhere text (ap (λ n. list_all is_digit_or_point (drop n text)) (sym w.if-start-eq0.true) ∙ here.number))
      | then-start-eq0-via-else-start-eq0+then-not-is_blank w ↦
          let some : 0 < start = omega (arith, w.if-start-eq0.false) in
          sym (ends_apart text start some here.within (sym w.is_blank.ensures ∙ w.if-not-is_blank.true) (here.apart some) here.number)
      | then-start-eq0-via-else-start-eq0+else-not-is_blank+then-not-is_number w ↦
          let some : 0 < start = omega (arith, w.if-start-eq0.false) in
          sym w.if-not-is_number.true ∙ w.is_number.ensures
          ∙ ends_at_blank text start some here.within (sym w.is_blank.ensures ∙ w.if-not-is_blank.false) here.number
    ]

pub returns-clause-found : goal.returns-clause-found
returns-clause-found c =
    let here = c.number_start-start.ensures in
    let some : 0 < c.number_start-start.result = omega (arith, c.if-start-eq0.false) in
    sym c.if-not-is_number.false ∙ c.is_number.ensures
    ∙ ends_at_blank c.args.text.now c.number_start-start.result some here.within (sym c.is_blank.ensures ∙ c.if-not-is_blank.false) here.number

pub returns-clause-place : goal.returns-clause-place
returns-clause-place c =
    let here = c.number_start-start.ensures in
    let some : 0 < c.number_start-start.result = omega (arith, c.if-start-eq0.false) in
    (some, here.within, columns_at_blank c.args.text.now c.number_start-start.result some here.within (sym c.is_blank.ensures ∙ c.if-not-is_blank.false) here.number)

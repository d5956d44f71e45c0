use Rattle.std.proofs.Common.{ap, sym, ◌∙◌}
use Rattle.folded_lines.specs.checked.Strictness.{earlier, first_ignored, lines_in}
use Rattle.folded_lines.proofs.StrictLemmas.{counted_clean, not_counted, strict_counted, strict_looked}
use Rattle.folded_lines.proofs.strictness.strict_fault.Goals as goal

pub returns-then-is_counted : goal.returns-then-is_counted
returns-then-is_counted c = λ read.
    let clean = sym read ∙ counted_clean c.args.ending.now (sym c.is_counted.ensures ∙ c.if-is_counted.true) in
    c.fault_of_counted.ensures ∙ sym (strict_counted c.args.text.now clean)

pub returns : goal.returns
returns c = λ read.
    let text = c.args.text.now in
    let ending = c.args.ending.now in
    let other = not_counted ending (sym c.is_counted.ensures ∙ c.if-is_counted.false) in
    c.earlier.ensures
    ∙ (ap (λ found. earlier found ending) c.first_ignored.ensures ∙ ap (earlier (first_ignored 0 (lines_in text))) read)
    ∙ sym (strict_looked text (λ clean. other (read ∙ clean)))

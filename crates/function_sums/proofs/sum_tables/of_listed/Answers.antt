use Rattle.std.proofs.Common.{◌∙◌, ◌∷◌, ◌++◌, [], None, ap, map, refl}
use Rattle.std.proofs.lemmas.List.{map-append}
use Rattle.std.proofs.lemmas.Result.{IfOk-weaker}
use Rattle.function_sums.specs.FunctionTable.{function_lines}
use Rattle.function_sums.specs.Told.{shown_of, told_of, whole_heading}
use Rattle.function_sums.specs.checked.Entries.{line_of}
use Rattle.function_sums.proofs.TextPieces.{joined}
use Rattle.function_sums.proofs.sum_tables.of_listed.Goals as goal

pub returns-clause-text : goal.returns-clause-text
returns-clause-text c =
    let told = told_of c.args.telling.now in
    let is_exact = c.args.is_exact in
    let shown = c.args.shown.now in
    let line = line_of is_exact told.unit in
    let lines = c.in_ok-add_lines.ensures is_exact told refl
    ∙ ap (λ first. first ++ function_lines is_exact told c.args.function.now.total None c.args.calls.now)
    (ap (map line) c.in_ok-push.ensures.items ∙ map-append line c.in_ok-lines.lines.items (c.line.result ∷ [])
    ∙ (λ i. c.in_ok-lines.ensures is_exact told.unit i ++ c.line.ensures is_exact told refl i ∷ [])) in
    IfOk-weaker c.of.result _ _ (λ table is. is ∙ joined {was = shown_of shown.shown shown.count shown.what.now shown.name.now} (whole_heading is_exact told c.args.function.now.total)
    c.in_ok-heading.ensures refl lines) c.of.ensures.text

use Rattle.std.proofs.Common.{◌-◌, ◌++◌, ◌∙◌, ◌<◌, [], ap, arith, get_or, length, map, sym}
use Rattle.std.proofs.lemmas.List.{get_or-map, length-map}
use Rattle.std.proofs.lemmas.Result.{on_ok_weaker}
use Rattle.function_sums.specs.Columns.{line_text}
use Rattle.function_sums.specs.checked.Entries.{line_of}
use Rattle.function_sums.specs.declared.text_tables.Line.{Line}
use Rattle.function_sums.proofs.TextPieces.{piece_of_row}
use Rattle.function_sums.proofs.text_tables.TablePieces.append_piece.Goals as goal

pub returns-else-at-eq0-clause-ok : goal.returns-else-at-eq0-clause-ok
returns-else-at-eq0-clause-ok c =
    let table = c.args.self.now in
    let line = line_of table.saying.is_exact table.saying.unit.now in
    let lines = table.lines.items in
    let place = c.args.at - 1 in
    let none : Line = record { entries = []; name = record { ref_ptr = (0, 0); now = [] } } in
    let same = length-map lines line in
    let within : place < length lines = omega (arith, c.if-at-eq0.false, c.requires.there, same, length-map (map line lines) (line_text table.widths)) in
    let piece = piece_of_row table.heading.items (line_text table.widths) (map line lines) c.args.at place (line none) (omega (arith, c.if-at-eq0.false)) (omega (arith, within, same))
    ∙ ap (line_text table.widths) (get_or-map line lines place none (line none) within) in
    on_ok_weaker c.append_line.result
    (λ written. written ∙ ap (λ all. c.args.out.now.items ++ line_text table.widths (line (get_or all place none))) c.as_slice-lines.ensures.value ∙ ap (λ text. c.args.out.now.items ++ text) (sym piece))
    c.append_line.ensures.ok

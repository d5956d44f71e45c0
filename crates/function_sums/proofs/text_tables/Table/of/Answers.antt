use Rattle.std.proofs.Common.{◌∙◌, ap, map}
use Rattle.std.specs.List.{concat}
use Rattle.function_sums.specs.Columns.{widths}
use Rattle.function_sums.specs.Pieces.{table_pieces}
use Rattle.function_sums.specs.checked.Entries.{line_of}
use Rattle.function_sums.proofs.TextPieces.{table-text}
use Rattle.function_sums.proofs.text_tables.Table.of.Goals as goal

pub returns-clause-text : goal.returns-clause-text
returns-clause-text c =
    let line = line_of c.args.is_exact c.args.telling.now.unit.now in
    ap (λ found. concat (table_pieces c.args.heading.items found (map line c.args.lines.items))) (c.in_ok-widths.ensures ∙ ap (λ lines. widths (map line lines)) c.deref.ensures.value)
    ∙ table-text c.args.heading.items (map line c.args.lines.items)

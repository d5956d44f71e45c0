use Rattle.folded_lines.proofs.TrimmedHeads.{IsRowOf-trimmed}
use Rattle.folded_lines.proofs.stream_telling.StreamTelling.row_of.Goals as goal

pub returns : goal.returns
returns c =
    let inside = c.self.inside in
    rw (← c.self.view_is) (IsRowOf-trimmed inside.names inside.stacks c.args.head.now c.without_trailing_semicolons.result.now c.find.result c.without_trailing_semicolons.ensures c.find.ensures)

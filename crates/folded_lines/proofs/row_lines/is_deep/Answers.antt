use Rattle.std.proofs.Common.{arith, length}
use Rattle.std.proofs.lemmas.Bool.{leb-true, le-leb}
use Rattle.std.proofs.lemmas.List.Sums.{count_by-le-length}
use Rattle.folded_lines.specs.Lines.{is_semicolon}
use Rattle.folded_lines.proofs.CountLemmas.{names_of-many, names_of-few}
use Rattle.folded_lines.proofs.row_lines.is_deep.Goals as goal

pub returns-then-head-ge-FRAME_LIMIT : goal.returns-then-head-ge-FRAME_LIMIT
returns-then-head-ge-FRAME_LIMIT c =
    let left = c.without_trailing_semicolons-head.result.now in
    let is = c.without_trailing_semicolons-head.ensures in (
      λ many. names_of-many c.args.head.now left is (omega (arith, leb-true 4096 c.semicolons.result many, c.semicolons.ensures)),
      λ many. le-leb 4096 c.semicolons.result (omega (arith, names_of-few c.args.head.now left is many, c.semicolons.ensures)),
    )

pub returns-else-head-ge-FRAME_LIMIT : goal.returns-else-head-ge-FRAME_LIMIT
returns-else-head-ge-FRAME_LIMIT c =
    let left = c.without_trailing_semicolons-head.result.now in
    let is = c.without_trailing_semicolons-head.ensures in (
      λ many. absurd (omega (arith, leb-true 4096 (length left) many, c.if-head-ge-FRAME_LIMIT.false)),
      λ many. absurd (omega (arith, names_of-few c.args.head.now left is many, count_by-le-length is_semicolon left, c.if-head-ge-FRAME_LIMIT.false)),
    )

use Rattle.std.proofs.Common.{◌∙◌, ◌<◌, [], ◌∷◌, ap, get_or, length, sum_by, take, arith}
use Rattle.std.proofs.lemmas.List.{take_more}
use Rattle.std.proofs.lemmas.List.Sums.{sum_by-append}
use Rattle.ranked_rows.specs.Joined.{Ranked}
use Rattle.ranked_rows.proofs.rows.RankedRows.total.Goals as goal

pub loop-at-preserved : goal.loop-at-preserved
loop-at-preserved c =
    let rows = c.args.self.now in
    let at = c.loop-at.at in
    let weight = λ (row : Ranked). row.1 in
    let within : at < length rows = omega (arith, c.loop-at-test.true, c.len-at-end.ensures) in
    let more = ap (sum_by weight) (take_more rows at ([], 0) within) ∙ sum_by-append weight (take at rows) (get_or rows at ([], 0) ∷ []) in
    omega (arith, more, c.weight-total.ensures, c.loop-at.invariant)

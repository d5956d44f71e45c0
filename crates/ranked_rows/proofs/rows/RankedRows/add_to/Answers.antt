use Rattle.std.proofs.Common.{◌∙◌, ap}
use Rattle.ranked_rows.specs.Gathering.{with_more}
use Rattle.ranked_rows.proofs.JoinedRows.{more_at, ranked_within}
use Rattle.ranked_rows.proofs.rows.RankedRows.add_to.Goals as goal

pub returns : goal.returns
returns c =
    let frames = c.self.inside.frames.items in
    let rows = c.self.inside.rows.items in
    more_at frames rows c.args.at c.index_mut-row.result.now c.args.weight c.in-Some.sum (ranked_within frames rows c.args.self.now c.args.at c.self.view_is c.requires) c.index_mut-row.ensures.value c.in-Some.ensures.1
    ∙ ap (λ rows. with_more rows c.args.at c.args.weight) c.self.view_is

use Rattle.std.proofs.Common.{◌∙◌, ap, arith}
use Rattle.std.specs.List.{slice_range}
use Rattle.ranked_rows.proofs.JoinedRows.{ranked_within, ranks_at, within_at}
use Rattle.ranked_rows.proofs.rows.RankedRows.ranks.Goals as goal

pub index-row-requires : goal.index-row-requires
index-row-requires c =
    let within = ranked_within c.self.inside.frames.items c.self.inside.rows.items c.args.self.now c.args.at c.self.view_is c.requires in
    omega (arith, within, c.self.inside.rows.ok.0)

pub slice_bounds-result-count : goal.slice_bounds-result-count
slice_bounds-result-count c =
    (within_at c.self.inside.frames.items c.self.inside.rows.items c.args.at c.index-row.result.now c.self.invariant (ranked_within c.self.inside.frames.items c.self.inside.rows.items c.args.self.now c.args.at c.self.view_is c.requires) c.index-row.ensures).0

pub returns : goal.returns
returns c =
    ap (λ frames. slice_range frames c.index-row.result.now.start c.index-row.result.now.end) c.deref.ensures.value
    ∙ ranks_at c.self.inside.frames.items c.self.inside.rows.items c.args.self.now c.args.at c.index-row.result.now c.self.view_is c.requires c.index-row.ensures

use Rattle.ranked_rows.proofs.rows.has_ranks.Goals as goal

pub returns : goal.returns
returns c = c.eq.ensures

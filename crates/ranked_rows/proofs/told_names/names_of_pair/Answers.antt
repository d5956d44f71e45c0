use Rattle.std.proofs.Common.{[]}
use Rattle.ranked_rows.proofs.told_names.names_of_pair.Goals as goal

pub returns : goal.returns
returns c = c.in_ok-keep_names-2.ensures c.args.before.now.told (c.in_ok-keep_names.ensures [] c.no_names-told.ensures)

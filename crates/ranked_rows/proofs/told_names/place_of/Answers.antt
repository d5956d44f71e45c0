use Rattle.std.proofs.Common.{arith}
use Rattle.ranked_rows.proofs.KeptNames.{kept_last}
use Rattle.ranked_rows.proofs.told_names.place_of.Goals as goal

pub returns-clause-keeps : goal.returns-clause-keeps
returns-clause-keeps c =
    kept_last c.args.kept.now.items c.push.new.self.items (c.args.name, c.len-place.result) c.in_ok-push.ensures.items (omega (arith, c.len-place.ensures, c.args.kept.now.ok.0))

use Rattle.std.proofs.Common.{arith}
use Rattle.std.proofs.lemmas.Nat.{mod_below}
use Rattle.view_texts.proofs.Places.{ten_some}
use Rattle.view_texts.proofs.quotients.append_placed.Goals as goal

pub nonzero_div-count : goal.nonzero_div-count
nonzero_div-count c = omega (arith, ten_some c.args.places)

pub nonzero_rem-count : goal.nonzero_rem-count
nonzero_rem-count c = omega (arith, ten_some c.args.places)

pub append_after_point-requires-clause-within : goal.append_after_point-requires-clause-within
append_after_point-requires-clause-within c = omega (arith, ten_some c.args.places, mod_below c.args.count c.pow-one.result (nonzero_rem-count c))

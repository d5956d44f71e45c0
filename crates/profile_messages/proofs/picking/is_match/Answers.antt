use Rattle.std.proofs.Common.{true}
use Rattle.profile_messages.proofs.PickLemmas.{match-at, match-past}
use Rattle.profile_messages.proofs.picking.is_match.Goals as goal

pub returns-in-Some : goal.returns-in-Some
returns-in-Some c = λ strings matches_are.
    match-at c.args.name.now strings c.args.matches.now c.args.index _ c.in-Some.ensures.lookup.3.0 (c.in-Some.ensures.lookup.3.1 true) matches_are

pub returns-in-None : goal.returns-in-None
returns-in-None c = λ strings matches_are.
    match-past c.args.name.now strings c.args.matches.now c.args.index _ c.in-None.ensures.lookup.3 c.is_empty.ensures matches_are

use Rattle.ring_collect.proofs.outlets.Outlet.push.Goals as goal

pub returns-in-Ok-clause-sent : goal.returns-in-Ok-clause-sent
returns-in-Ok-clause-sent c = c.in-Ok.ensures.ok.0

-- it was not taken, so nothing is asked
pub returns-in-Err-Full-clause-sent : goal.returns-in-Err-Full-clause-sent
returns-in-Err-Full-clause-sent c = tt

use Rattle.run_options.proofs.ring_sizes.RingSize.get.Goals as goal

pub returns-clause-number : goal.returns-clause-number
returns-clause-number c = c.self.view_is

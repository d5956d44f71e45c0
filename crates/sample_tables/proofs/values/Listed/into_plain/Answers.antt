use Rattle.sample_tables.proofs.values.Listed.into_plain.Goals as goal

pub returns : goal.returns
returns g c = c.self.view_is

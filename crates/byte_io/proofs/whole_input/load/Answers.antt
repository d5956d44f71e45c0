use Rattle.byte_io.proofs.whole_input.load.Goals as goal

pub returns-clause-too_large : goal.returns-clause-too_large
returns-clause-too_large g c = c.load_through.ensures.too_large

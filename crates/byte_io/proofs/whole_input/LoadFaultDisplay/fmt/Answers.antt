use Rattle.byte_io.proofs.whole_input.LoadFaultDisplay.fmt.Goals as goal

pub returns-in-Io-clause-writes : goal.returns-in-Io-clause-writes
returns-in-Io-clause-writes g c = rw c.in-Io.is c.write_str.ensures.writes

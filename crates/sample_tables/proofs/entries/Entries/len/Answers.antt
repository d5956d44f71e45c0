use Rattle.std.proofs.Common.{length, ap, arith}
use Rattle.sample_tables.proofs.EntryLemmas.{length-entries_of}
use Rattle.sample_tables.proofs.entries.Entries.len.Goals as goal

pub returns : goal.returns
returns c =
    omega (arith, c.len.ensures, c.self.inside.weights.ok.0, length-entries_of _ _ c.self.invariant.paired, ap length c.self.view_is)

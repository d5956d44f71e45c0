use Rattle.std.proofs.Common.{◌<◌, length, ap, sym, ◌∙◌, arith}
use Rattle.sample_tables.specs.declared.samples.Sample.{Sample}
use Rattle.sample_tables.specs.Rows.{sample_at}
use Rattle.sample_tables.specs.Tables.{Table, samples_in}
use Rattle.sample_tables.proofs.EntryLemmas.{sample_at-entry_at}
use Rattle.sample_tables.proofs.tables.RowTable.weight.Goals as goal

pub returns-clause-sample : goal.returns-clause-sample
returns-clause-sample c =
    let l : c.args.i < length c.self.inside.entries = omega (arith, c.requires, ap (λ (t : Table). length t.entries) c.self.view_is) in
    let e = sample_at-entry_at c.self.inside.stacks.names c.self.inside.stacks.stacks c.self.inside.entries c.args.i l in
    c.weight.ensures.value ∙ ap (λ (s : Sample). s.weight) (sym e) ∙ ap (λ (t : Table). (sample_at (samples_in t) c.args.i).weight) c.self.view_is

use Rattle.std.proofs.Common.{◌<◌, length, ap, sym, ◌∙◌, arith, List}
use Rattle.sample_tables.specs.Rows.{Entry, entry_at}
use Rattle.sample_tables.proofs.EntryLemmas.{length-entries_of, entry_at-entries_of}
use Rattle.sample_tables.proofs.entries.Entries.stack.Goals as goal

pub index-requires : goal.index-requires
index-requires c =
    omega (arith, c.requires, c.self.inside.stacks.ok.0, c.self.invariant.paired, length-entries_of _ _ c.self.invariant.paired, ap length c.self.view_is)

pub returns : goal.returns
returns c =
    let l : c.args.i < length c.self.inside.weights.items = omega (arith, c.requires, c.self.invariant.paired, length-entries_of _ _ c.self.invariant.paired, ap length c.self.view_is) in
    let e = entry_at-entries_of c.self.inside.stacks.items c.self.inside.weights.items c.args.i c.index.result.now c.index.result.now c.self.invariant.paired l in
    c.index.ensures ∙ ap (λ (entry : Entry). entry.stack) (sym e) ∙ ap (λ (entries : List Entry). (entry_at entries c.args.i).stack) c.self.view_is

use Rattle.std.proofs.Common.{◌<◌, length, ap, sym, ◌∙◌, arith, List}
use Rattle.sample_tables.specs.Rows.{Entry, entry_at}
use Rattle.sample_tables.proofs.EntryLemmas.{length-entries_of, entry_at-entries_of}
use Rattle.sample_tables.proofs.entries.Entries.weight.Goals as goal

pub index-requires : goal.index-requires
index-requires c =
    omega (arith, c.requires, c.self.inside.weights.ok.0, c.self.invariant.paired, length-entries_of _ _ c.self.invariant.paired, ap length c.self.view_is)

pub returns-clause-value : goal.returns-clause-value
returns-clause-value c =
    let l : c.args.i < length c.self.inside.weights.items = omega (arith, c.requires, c.self.invariant.paired, length-entries_of _ _ c.self.invariant.paired, ap length c.self.view_is) in
    let e = entry_at-entries_of c.self.inside.stacks.items c.self.inside.weights.items c.args.i c.index.result.now c.index.result.now c.self.invariant.paired l in
    c.index.ensures ∙ ap (λ (entry : Entry). entry.weight) (sym e) ∙ ap (λ (entries : List Entry). (entry_at entries c.args.i).weight) c.self.view_is

pub returns-clause-limit : goal.returns-clause-limit
returns-clause-limit c =
    let n = length-entries_of _ _ c.self.invariant.paired in
    let l : c.args.i < length c.self.inside.weights.items = omega (arith, c.requires, c.self.invariant.paired, n, ap length c.self.view_is) in
    let e = entry_at-entries_of c.self.inside.stacks.items c.self.inside.weights.items c.args.i c.index.result.now c.index.result.now c.self.invariant.paired l in
    omega (arith, c.index.ensures, ap (λ (entry : Entry). entry.weight) e, c.self.invariant.limits c.args.i (record { stack = 0; weight = 0 }) (omega (arith, n, l)))

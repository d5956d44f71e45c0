use Rattle.std.proofs.Common.{arith}
use Rattle.sample_tables.proofs.EntryLemmas.{AreEntered-push, entries_of-push, total-bound}
use Rattle.sample_tables.proofs.entries.Entries.push.Goals as goal

pub overflow_add-self : goal.overflow_add-self
overflow_add-self c =
    omega (arith, total-bound _ _ _ c.self.invariant, c.self.inside.weights.ok.0, c.requires, c.from.ensures)

pub invariant_of-self-2 : goal.invariant_of-self-2
invariant_of-self-2 c =
    rw (c.in_ok-push.ensures.items, c.push_reserved.ensures.items, c.in_ok-reserve.ensures.items, c.from.ensures) (AreEntered-push _ _ _ _ _ c.self.invariant c.requires)

pub returns-clause-ok : goal.returns-clause-ok
returns-clause-ok c =
    let more = entries_of-push c.self.inside.stacks.items c.self.inside.weights.items c.args.stack c.args.weight c.self.invariant.paired in
    let known = c.self.view_is in
    cc (c.in_ok-push.ensures.items, c.push_reserved.ensures.items, c.in_ok-reserve.ensures.items, more, known)

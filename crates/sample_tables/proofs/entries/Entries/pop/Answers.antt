use Rattle.std.proofs.Common.{◌-◌, List, length, take, ap, arith, ◌∙◌}
use Rattle.sample_tables.specs.Rows.{Entry}
use Rattle.sample_tables.proofs.EntryLemmas.{entry_popped}
use Rattle.sample_tables.proofs.entries.Entries.pop.Goals as goal

pub overflow_sub-self : goal.overflow_sub-self
overflow_sub-self c =
    let popped = entry_popped _ _ _ _ _ _ _ c.self.invariant c.in-Some-Some.ensures.items c.in-Some-Some.ensures'.items in
    omega (arith, c.from.ensures, popped.within)

pub invariant_of-self : goal.invariant_of-self
invariant_of-self c =
    let popped = entry_popped _ _ _ _ _ _ _ c.self.invariant c.in-Some-Some.ensures.items c.in-Some-Some.ensures'.items in
    rw c.from.ensures popped.entered

pub returns-in-Some-Some : goal.returns-in-Some-Some
returns-in-Some-Some c =
    let popped = entry_popped _ _ _ _ _ _ _ c.self.invariant c.in-Some-Some.ensures.items c.in-Some-Some.ensures'.items in
    popped.left ∙ ap (λ (entries : List Entry). take (length entries - 1) entries) c.self.view_is

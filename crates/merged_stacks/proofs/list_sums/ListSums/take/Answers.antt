use Rattle.std.proofs.Common.{◌≡◌, ◌<◌, ℕ, ap, length, arith}
use Rattle.stack_core.specs.Ledgers.{ListState}
use Rattle.merged_stacks.specs.checked.Growing.{ListFront}
use Rattle.merged_stacks.proofs.list_sums.ListSums.take.Goals as goal

-- the next sample is one of the list
is_next : (list : ListState) (i : ℕ) (front : ListFront) → record { list = list; count = i } ≡ front → front.count < length front.list.samples → i < length list.samples
is_next list i front is more = omega (arith, more, ap (λ (f : ListFront). f.count) is, ap (λ (f : ListFront). length f.list.samples) is)

pub add_sample-requires-clause-at : goal.add_sample-requires-clause-at
add_sample-requires-clause-at c = is_next c.self.inside.list.now c.self.inside.count c.args.self.now c.self.view_is c.requires

pub overflow_add-self : goal.overflow_add-self
overflow_add-self c =
    let h = c.self.invariant in
    omega (arith, is_next c.self.inside.list.now c.self.inside.count c.args.self.now c.self.view_is c.requires, h.fits)

pub invariant_of-self : goal.invariant_of-self
invariant_of-self c =
    let h = c.self.invariant in
    record {
      ordered = h.ordered;
      len = c.add_sample.ensures.len;
      fits = h.fits;
      total = h.total;
      samples_named = h.samples_named;
      picked = c.add_sample.ensures.picked;
    }

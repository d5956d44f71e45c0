use Rattle.std.proofs.Common.{subst, sym}
use Rattle.std.specs.Prelude.{◌≤◌, Option, ℕ, IfSome}
use Rattle.merging.proofs.SinkLemmas.{sink-starts}
use Rattle.merging.proofs.tree_sink.TreeSink.new.Goals as goal

pub invariant_of-result : goal.invariant_of-result
invariant_of-result c =
    let positive = subst (λ (every : Option ℕ). IfSome every (λ k. 1 ≤ k)) (sym c.new.ensures.every) c.requires in
    sink-starts c.new.result c.new-2.result c.in_ok-new.field-0 c.new-4.result.items c.new.ensures.tallied positive c.new.ensures.taken c.new-2.ensures c.in_ok-new.ensures c.new-4.ensures.items

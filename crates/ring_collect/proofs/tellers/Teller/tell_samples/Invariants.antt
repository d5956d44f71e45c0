use Rattle.std.proofs.Common.{◌≡◌}
use Rattle.rtrb.specs.Ring.{SameProducer}
use Rattle.stack_core.specs.Reading.{Rest}
use Rattle.stack_core.specs.Records.{IsWellTold}
use Rattle.stack_core.specs.RowReading.{GivesSuch}
use Rattle.ring_collect.specs.checked.Batches.{told_to}
use Rattle.ring_collect.specs.checked.Tellers.{told_by}
use Rattle.ring_collect.proofs.Progress.{ToldSoFar}
use Rattle.ring_collect.proofs.tellers.Teller.tell_samples.Given as goal

-- the samples before this one are told, of each rest that the reader may give now
abbrev pub invariant-loop : goal.invariant-loop
invariant-loop g l =
    let r = g.R.RowReader in
    record {
      ends : (goal.iterator-loop g).can_next l.iterator' × (goal.iterator-loop g).is_finite l.iterator';
      ring : SameProducer l.fn.self.outlet.producer l.self.outlet.producer;
      rows : r.told l.self.reader ≡ told_by (told_to l.self.outlet);
      well_told : IsWellTold (told_to l.self.outlet);
      told : (after : Rest) → r.gives l.self.reader after
          → GivesSuch (r.gives l.fn.self.reader) (λ whole. ToldSoFar (g.G.Gate.may_go l.gate) l.source whole after l.index (r.told l.self.reader) (told_to l.self.outlet));
    }

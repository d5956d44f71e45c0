use Rattle.std.proofs.Common.{◌<◌, ◌-◌, length, false}
use Rattle.call_tree.specs.checked.Places.{LeadsTo}
use Rattle.call_tree.proofs.PlaceWalks.{IsLeft}
use Rattle.call_tree.proofs.places.Places.walk.Given as goal

abbrev pub invariant-loop-number : goal.invariant-loop-number
invariant-loop-number g l = record {
  leads : 0 < l.self.slots → LeadsTo l.self.cells.items l.self.slots l.hash l.place l.bits;
  left : IsLeft (λ n. goal.F-post g l.is_it n false) l.self.cells.items l.self.slots l.hash l.place l.bits;
}

abbrev pub decreases-loop-number : goal.decreases-loop-number
decreases-loop-number g l = length l.self.cells.items - l.place

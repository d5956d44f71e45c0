use Rattle.std.proofs.Common.{◌≡◌, ◌++◌, map}
use Rattle.std.specs.Vec.Iter.{into_iter_items}
use Rattle.flame_layout.specs.Edges.{placed_at}
use Rattle.flame_layout.proofs.image.place.Given as goal

abbrev pub invariant-loop-span : goal.invariant-loop-span
invariant-loop-span l = record {
  rest : l.yielded ++ into_iter_items l.span-iterator ≡ l.fn.boxes.items;
  placed : l.placed.items ≡ map (placed_at l.total l.width) l.yielded;
}

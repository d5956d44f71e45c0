use Rattle.std.proofs.Common.{rules, ◌≡◌, sym, subst, vec_capacity, arith}
use Rattle.call_tree.specs.checked.Places.{AreSound}
use Rattle.call_tree.proofs.places.Places.copy.Goals as goal

pub returns-clause-sound : goal.returns-clause-sound
returns-clause-sound c =
    let places = c.args.self.now in
    let same : c.extend_from_slice.new.self.items ≡ places.cells.items = search rules in
    subst (λ cells. AreSound places.slots cells (vec_capacity c.extend_from_slice.new.self)) (sym same) (record {
      room = omega (arith, c.requires.room, c.in_ok-cells.ensures.capacity, c.in_ok-extend_from_slice.ensures.capacity);
      small = c.requires.small;
      rises = c.requires.rises;
      within = c.requires.within;
    })

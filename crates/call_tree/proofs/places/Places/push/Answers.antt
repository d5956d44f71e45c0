use Rattle.std.proofs.Common.{◌+◌, ◌<◌, length, ◌∙◌, arith}
use Rattle.std.proofs.lemmas.List.{get_or-set_same}
use Rattle.call_tree.proofs.PlaceWalks.{longer_keeps, longer_sound, put_keeps, put_sound, put_placed, keeps_both}
use Rattle.call_tree.proofs.places.Places.push.Goals as goal

pub index_mut-requires : goal.index_mut-requires
index_mut-requires c = omega (arith, c.requires.free.leads.within, c.lengthen.ensures.longer.len)

pub returns-clause-sound : goal.returns-clause-sound
returns-clause-sound c =
    rw c.lengthen.ensures.slots (put_sound c.args.place c.args.number (longer_sound _ c.requires.sound c.lengthen.ensures.longer c.lengthen.ensures.capacity)
    (omega (arith, c.lengthen.ensures.longer.len, c.requires.next)) (omega (arith, c.requires.free.leads.within, c.requires.next)))

pub returns-clause-keeps : goal.returns-clause-keeps
returns-clause-keeps c =
    keeps_both (longer_keeps c.lengthen.ensures.longer) (put_keeps c.args.place (c.args.number + 1) (c.lengthen.ensures.longer.same c.args.place ∙ c.requires.free.empty))

pub returns-clause-placed : goal.returns-clause-placed
returns-clause-placed c =
    let inside : c.args.place < length c.lengthen.new.self.cells.items = omega (arith, c.requires.free.leads.within, c.lengthen.ensures.longer.len) in
    rw c.lengthen.ensures.slots (put_placed c.args.number c.requires.free (returns-clause-keeps c) (get_or-set_same c.lengthen.new.self.cells.items c.args.place (c.args.number + 1) 0 inside))

use Rattle.std.proofs.Common.{◌≡◌, ◌∷◌, ◌++◌, [], arith}
use Rattle.std.specs.Vec.{vec_len, vec_capacity}
use Rattle.call_tree.proofs.PlaceWalks.{longer, pushed}
use Rattle.call_tree.proofs.places.Places.lengthen.Goals as goal

pub returns-clause-longer : goal.returns-clause-longer
returns-clause-longer c =
    let one : c.push.new.self.items ≡ c.args.self.now.cells.items ++ 0 ∷ [] =
    pushed c.push.result c.args.self.now.cells.items c.push.new.self.items (vec_capacity c.args.self.now.cells) (vec_len c.args.self.now.cells) c.push.ensures.full (omega arith) c.push.ensures.items in
    let two : c.push-2.new.self.items ≡ c.push.new.self.items ++ 0 ∷ [] =
    pushed c.push-2.result c.push.new.self.items c.push-2.new.self.items (vec_capacity c.push.new.self) (vec_len c.push.new.self) c.push-2.ensures.full (omega arith) c.push-2.ensures.items in
    longer c.args.self.now.cells.items c.push.new.self.items c.push-2.new.self.items one two

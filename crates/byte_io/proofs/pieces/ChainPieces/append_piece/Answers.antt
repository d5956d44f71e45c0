use Rattle.std.proofs.Common.{◌<◌, List, [], ℕ, length, sym, length-append, arith}
use Rattle.std.proofs.Math.ListN.{get_or-append}
use Rattle.std.proofs.lemmas.List.{get_or-append_right}
use Rattle.byte_io.proofs.pieces.ChainPieces.append_piece.Goals as goal

pub count-turn-requires : goal.count-turn-requires
count-turn-requires g c = omega (arith, c.requires.few, length-append {A = List ℕ})

pub append_piece-requires-clause-few : goal.append_piece-requires-clause-few
append_piece-requires-clause-few g c = omega (arith, c.requires.few, length-append {A = List ℕ})

pub append_piece-requires-clause-there : goal.append_piece-requires-clause-there
append_piece-requires-clause-there g c = omega (arith, c.count-turn.ensures, c.if-at-turn.true)

pub append_piece-requires-else-at-turn-clause-few : goal.append_piece-requires-else-at-turn-clause-few
append_piece-requires-else-at-turn-clause-few g c = omega (arith, c.requires.few, length-append {A = List ℕ})

pub append_piece-requires-else-at-turn-clause-there : goal.append_piece-requires-else-at-turn-clause-there
append_piece-requires-else-at-turn-clause-there g c = omega (arith, c.count-turn.ensures, c.requires.there, c.if-at-turn.false, length-append {A = List ℕ})

pub returns-then-at-turn-clause-ok : goal.returns-then-at-turn-clause-ok
returns-then-at-turn-clause-ok g c =
    let first = g.A.Pieces.pieces c.args.self.now.first in
    let there : c.args.at < length first = omega (arith, c.count-turn.ensures, c.if-at-turn.true) in
    rw (get_or-append first (g.B.Pieces.pieces c.args.self.now.then) [] c.args.at there) c.append_piece.ensures.ok

pub returns-then-at-turn-clause-front : goal.returns-then-at-turn-clause-front
returns-then-at-turn-clause-front g c = c.append_piece.ensures.front

pub returns-else-at-turn-clause-ok : goal.returns-else-at-turn-clause-ok
returns-else-at-turn-clause-ok g c =
    let first = g.A.Pieces.pieces c.args.self.now.first in
    rw (get_or-append_right first (g.B.Pieces.pieces c.args.self.now.then) c.count-turn.result c.args.at [] (sym c.count-turn.ensures) c.if-at-turn.false) c.append_piece-else-at-turn.ensures.ok

pub returns-else-at-turn-clause-front : goal.returns-else-at-turn-clause-front
returns-else-at-turn-clause-front g c = c.append_piece-else-at-turn.ensures.front

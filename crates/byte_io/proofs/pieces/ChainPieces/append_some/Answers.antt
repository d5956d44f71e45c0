use Rattle.std.proofs.Common.{◌+◌, ◌-◌, ◌++◌, ◌∙◌, List, ℕ, sym, ap, length-append, arith}
use Rattle.std.specs.List.{concat}
use Rattle.byte_io.proofs.PieceTexts.{chain_first, chain_within, range_then}
use Rattle.byte_io.proofs.pieces.ChainPieces.append_some.Goals as goal

pub count-turn-requires : goal.count-turn-requires
count-turn-requires g c = omega (arith, c.requires.few, length-append {A = List ℕ})

pub append_some-requires-clause-few : goal.append_some-requires-clause-few
append_some-requires-clause-few g c = omega (arith, c.requires.few, length-append {A = List ℕ})

pub append_some-requires-clause-there : goal.append_some-requires-clause-there
append_some-requires-clause-there g c = omega (arith, c.count-turn.ensures, c.if-at-turn.true)

pub returns-then-at-turn-clause-ok : goal.returns-then-at-turn-clause-ok
returns-then-at-turn-clause-ok g c = chain_first _ (g.B.Pieces.pieces c.args.self.now.then) _ _ _ c.append_some.result c.append_some.ensures.ok c.append_some.ensures.further c.append_some.ensures.within

pub returns-then-at-turn-clause-further : goal.returns-then-at-turn-clause-further
returns-then-at-turn-clause-further g c = c.append_some.ensures.further

pub returns-then-at-turn-clause-within : goal.returns-then-at-turn-clause-within
returns-then-at-turn-clause-within g c = chain_within _ (g.B.Pieces.pieces c.args.self.now.then) c.append_some.result c.append_some.ensures.within

pub returns-then-at-turn-clause-front : goal.returns-then-at-turn-clause-front
returns-then-at-turn-clause-front g c = c.append_some.ensures.front

pub append_some-requires-2-clause-few : goal.append_some-requires-2-clause-few
append_some-requires-2-clause-few g c = omega (arith, c.requires.few, length-append {A = List ℕ})

pub append_some-requires-2-clause-there : goal.append_some-requires-2-clause-there
append_some-requires-2-clause-there g c = omega (arith, c.count-turn.ensures, c.requires.there, c.if-at-turn.false, length-append {A = List ℕ})

pub overflow_add-result : goal.overflow_add-result
overflow_add-result g c = omega (arith, c.count-turn.ensures, c.in_ok-next.ensures.within, c.requires.few, length-append {A = List ℕ})

pub returns-clause-ok : goal.returns-clause-ok
returns-clause-ok g c =
    let first = g.A.Pieces.pieces c.args.self.now.first in
    let then = g.B.Pieces.pieces c.args.self.now.then in
    let some = range_then first then c.args.at (c.args.at - c.count-turn.result) (c.count-turn.result + c.in_ok-next.next) c.in_ok-next.next (omega (arith, c.count-turn.ensures, c.if-at-turn.false)) (omega (arith, c.count-turn.ensures)) in
    c.in_ok-next.ensures.ok ∙ ap (λ pieces. c.args.out.now.items ++ concat pieces) (sym some)

pub returns-clause-further : goal.returns-clause-further
returns-clause-further g c = omega (arith, c.in_ok-next.ensures.further, c.if-at-turn.false)

pub returns-clause-within : goal.returns-clause-within
returns-clause-within g c = omega (arith, c.count-turn.ensures, c.in_ok-next.ensures.within, length-append {A = List ℕ})

pub returns-clause-front : goal.returns-clause-front
returns-clause-front g c = c.in_ok-next.ensures.front

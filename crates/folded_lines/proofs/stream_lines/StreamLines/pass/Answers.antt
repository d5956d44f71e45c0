use Rattle.std.proofs.Common.{List, ℕ, subst, arith}
use Rattle.bstr.proofs.lemmas.LineLemmas.{line_len-bounds}
use Rattle.folded_lines.specs.checked.StreamLines.{StateMayCome}
use Rattle.folded_lines.proofs.FoundLines.{taken_off}
use Rattle.folded_lines.proofs.stream_lines.StreamLines.pass.Goals as goal

pub drop_front-requires : goal.drop_front-requires
drop_front-requires g c =
    let bounds = line_len-bounds c.args.self.now.buffer c.requires.some in
    omega (arith, c.requires.next, bounds.1)

pub returns-clause-line : goal.returns-clause-line
returns-clause-line g c = λ after may.
    let inlet = c.args.self.now.inlet in
    let state = c.args.self.now.state in
    taken_off state (g.I.Inlet.remaining inlet) (g.I.Inlet.is_sure inlet) c.args.self.now.buffer c.args.found c.requires after
    (subst (λ (unread : List ℕ). StateMayCome state (g.I.Inlet.remaining inlet) (g.I.Inlet.is_sure inlet) unread after) c.drop_front.ensures may)

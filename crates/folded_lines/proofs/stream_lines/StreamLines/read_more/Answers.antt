use Rattle.std.proofs.Common.{◌≡◌, subst, sym, Some, None}
use Rattle.folded_lines.specs.checked.StreamLines.{StateMayCome, Brings}
use Rattle.folded_lines.specs.declared.stream_lines.StreamState.{StreamState}
use Rattle.folded_lines.specs.declared.stream_lines.StreamState.TheVariants.{Open}
use Rattle.folded_lines.proofs.FoundLines.{brought, failed}
use Rattle.folded_lines.proofs.stream_lines.StreamLines.read_more.Goals as goal

pub returns-in-Some-clause-kept : goal.returns-in-Some-clause-kept
returns-in-Some-clause-kept g c = λ coming may.
    let old = c.args.self.now in
    let inlet = old.inlet in
    let is_open : old.state ≡ Open = c.in-Open.is in
    let brings : Brings (g.I.Inlet.remaining inlet) (g.I.Inlet.remaining c.read.new.inlet) (g.I.Inlet.is_sure inlet) old.buffer (Some c.in-Some.field-0) c.read.new.self = rw c.in-Some.is at c.in_ok-read.ensures.brings in
    let now = subst (λ (state : StreamState). StateMayCome state (g.I.Inlet.remaining c.read.new.inlet) (g.I.Inlet.is_sure c.read.new.inlet) c.read.new.self coming) is_open may in
    subst (λ (state : StreamState). StateMayCome state (g.I.Inlet.remaining inlet) (g.I.Inlet.is_sure inlet) old.buffer coming) (sym is_open)
    (brought (g.I.Inlet.remaining inlet) (g.I.Inlet.remaining c.read.new.inlet) (g.I.Inlet.is_sure inlet) (g.I.Inlet.is_sure c.read.new.inlet) old.buffer c.read.new.self c.in-Some.field-0 brings c.in_ok-read.ensures.surety coming now)

pub returns-in-None-clause-kept : goal.returns-in-None-clause-kept
returns-in-None-clause-kept g c = λ coming none.
    let old = c.args.self.now in
    let inlet = old.inlet in
    let is_open : old.state ≡ Open = c.in-Open.is in
    let brings : Brings (g.I.Inlet.remaining inlet) (g.I.Inlet.remaining c.read.new.inlet) (g.I.Inlet.is_sure inlet) old.buffer None c.read.new.self = rw c.in-None.is at c.in_ok-read.ensures.brings in
    subst (λ (state : StreamState). StateMayCome state (g.I.Inlet.remaining inlet) (g.I.Inlet.is_sure inlet) old.buffer coming) (sym is_open)
    (failed (g.I.Inlet.remaining inlet) (g.I.Inlet.is_sure inlet) old.buffer brings.0 coming none)

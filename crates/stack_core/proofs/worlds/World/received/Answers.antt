use Rattle.std.proofs.Common.{◌<◌, [], length, ap, sym, subst, ◌∙◌}
use Rattle.std.proofs.lemmas.List.{get_or_read}
use Rattle.stack_core.specs.declared.endings.Item.{Item}
use Rattle.stack_core.specs.Schedule.{Lane, Schedule, unpushed}
use Rattle.stack_core.proofs.worlds.World.received.Goals as goal

pub returns : goal.returns
returns c =
    let within = subst (λ (s : Schedule Item). c.args.source < length s.lanes) (sym c.self.view_is) c.requires in
    let lane = get_or_read c.self.inside.lanes.items c.args.source c.index.result.now within c.index.ensures (unpushed []) in
    rw (← c.self.view_is) (c.received.ensures ∙ ap (λ (l : Lane Item). l.received) lane)

use Rattle.std.proofs.lemmas.Bool.{ne_eqb}
use Rattle.flame_layout.proofs.PairedRows.{stepped}
use Rattle.flame_layout.proofs.comparisons.step_path.Goals as goal

pub returns : goal.returns
returns c = stepped c.args.path.now.items c.truncate.new.self.items c.push.new.self.items c.args.next.now (ne_eqb c.args.next.now.depth 0 c.if-next-eq0.false) c.truncate.ensures.items c.in_ok-push.ensures.items

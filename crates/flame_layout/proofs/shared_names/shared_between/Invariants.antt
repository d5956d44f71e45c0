use Rattle.std.proofs.Common.{◌≡◌, ◌+◌, drop}
use Rattle.sample_tables.specs.Rows.{sample_at}
use Rattle.flame_layout.specs.Chart.{names_shared}
use Rattle.flame_layout.proofs.shared_names.shared_between.Given as goal

abbrev pub invariant-loop-frame : goal.invariant-loop-frame
invariant-loop-frame g l =
    let one = (sample_at (g.S.StackRows.samples l.list) l.at).stack in
    let two = (sample_at (g.S.StackRows.samples l.other) l.later).stack in
    names_shared one two ≡ l.frame + names_shared (drop l.frame one) (drop l.frame two)

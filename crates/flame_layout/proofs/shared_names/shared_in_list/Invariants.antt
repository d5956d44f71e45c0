use Rattle.std.proofs.Common.{◌≡◌, ◌+◌, drop}
use Rattle.sample_tables.specs.Rows.{sample_at}
use Rattle.flame_layout.specs.Chart.{names_shared}
use Rattle.flame_layout.proofs.shared_names.shared_in_list.Given as goal

abbrev pub invariant-loop-frame : goal.invariant-loop-frame
invariant-loop-frame g l =
    let one = (sample_at (g.S.StackRows.samples l.list) l.at).stack in
    let other = (sample_at (g.S.StackRows.samples l.list) l.later).stack in
    names_shared one other ≡ l.frame + names_shared (drop l.frame one) (drop l.frame other)

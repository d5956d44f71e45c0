use Rattle.std.proofs.Common.{◌≡◌, ◌∙◌, ℕ, List, ap, arith, length, subst, sym}
use Rattle.sample_tables.specs.declared.samples.Sample.{Sample}
use Rattle.sample_tables.specs.Rows.{sample_at}
use Rattle.stack_core.specs.Interleaving.{list_of}
use Rattle.flame_layout.specs.checked.ChartWalks.{BeginAlike}
use Rattle.flame_layout.proofs.chart_walks.shared_with.Goals as goal

pub shared_in_list-requires-clause-at : goal.shared_in_list-requires-clause-at
shared_in_list-requires-clause-at g c = omega (arith, c.requires.at, ap length c.list-samples.ensures)

pub shared_in_list-requires-clause-later : goal.shared_in_list-requires-clause-later
shared_in_list-requires-clause-later g c =
    omega (arith, c.requires.front.at, ap length c.list-samples.ensures, ap (λ n. length (list_of c.args.chart.now.lists n)) c.if-front-list.true)

pub shared_between-requires-clause-at : goal.shared_between-requires-clause-at
shared_between-requires-clause-at g c = omega (arith, c.requires.at, ap length c.list-samples.ensures)

pub shared_between-requires-clause-later : goal.shared_between-requires-clause-later
shared_between-requires-clause-later g c = omega (arith, c.requires.front.at, ap length c.list.ensures)

-- the samples are those of the lists
moved : (at later : ℕ) {one two lists others : List Sample} {count : ℕ} → one ≡ lists → two ≡ others → BeginAlike (sample_at one at).stack (sample_at two later).stack count → BeginAlike (sample_at lists at).stack (sample_at others later).stack count
moved at later {count = count} is are alike =
    subst (λ (p : List Sample × List Sample). BeginAlike (sample_at p.0 at).stack (sample_at p.1 later).stack count) (λ i. (is i, are i)) alike

pub returns-then-front-list : goal.returns-then-front-list
returns-then-front-list g c =
    moved c.args.at c.args.front.now.at c.list-samples.ensures (c.list-samples.ensures ∙ ap (list_of c.args.chart.now.lists) (sym c.if-front-list.true)) c.shared_in_list.ensures

pub returns-else-front-list : goal.returns-else-front-list
returns-else-front-list g c = moved c.args.at c.args.front.now.at c.list-samples.ensures c.list.ensures c.shared_between.ensures

use Rattle.std.proofs.Common.{◌≡◌, ◌∙◌, ◌<◌, List, ap, arith, length, map, sym}
use Rattle.sample_tables.specs.Rows.{name_at, sample_at}
use Rattle.sample_tables.specs.declared.samples.Sample.{Sample}
use Rattle.merging.proofs.SummedLemmas.{kept-at, kept-len}
use Rattle.merging.proofs.summed_stacks.SummedStacks.stands_at.Goals as goal

pub returns-then-place-stack_count : goal.returns-then-place-stack_count
returns-then-place-stack_count c same =
    let s = c.self.inside in
    let within : c.args.place < length c.self.inside.table.stacks = omega arith in (
      omega (arith, within, ap length c.self.view_is, kept-len s.table.names s.table.stacks s.sums.items c.self.invariant.len),
      ap (λ (samples : List Sample). (sample_at samples c.args.place).stack) (sym c.self.view_is)
          ∙ ap (λ (sample : Sample). sample.stack) (kept-at s.table.names s.table.stacks s.sums.items c.args.place c.self.invariant.len within)
          ∙ ap (map (name_at s.table.names)) (sym c.stack.ensures.value)
          ∙ c.has_names.ensures same,
    )

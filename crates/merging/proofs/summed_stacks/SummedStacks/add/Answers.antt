use Rattle.std.proofs.Common.{◌≡◌, ◌∙◌, ◌<◌, ◌+◌, List, ap, arith, length, set}
use Rattle.std.proofs.lemmas.List.{get_or_read}
use Rattle.sample_tables.specs.Rows.{sample_at}
use Rattle.sample_tables.specs.declared.samples.Sample.{Sample}
use Rattle.merged_stacks.specs.Sums.{kept_samples}
use Rattle.merging.proofs.SummedLemmas.{kept-at, kept-len, kept-set}
use Rattle.merging.proofs.summed_stacks.SummedStacks.add.Goals as goal

pub index_mut-requires : goal.index_mut-requires
index_mut-requires c =
    let s = c.self.inside in
    omega (arith, ap length c.self.view_is, kept-len s.table.names s.table.stacks s.sums.items c.self.invariant.len)

pub overflow_add-index_mut : goal.overflow_add-index_mut
overflow_add-index_mut c =
    let s = c.self.inside in
    let within : c.args.place < length c.self.inside.table.stacks = omega (arith, ap length c.self.view_is, kept-len s.table.names s.table.stacks s.sums.items c.self.invariant.len) in
    let here = ap (λ (sample : Sample). sample.weight) (kept-at s.table.names s.table.stacks s.sums.items c.args.place c.self.invariant.len within) in
    let was = get_or_read s.sums.items c.args.place c.index_mut.result.now (omega (arith, within, c.self.invariant.len)) c.index_mut.ensures.value 0 in
    omega (arith, here, ap (λ (samples : List Sample). (sample_at samples c.args.place).weight) c.self.view_is, was)

pub returns : goal.returns
returns c =
    let s = c.self.inside in
    let within : c.args.place < length c.self.inside.table.stacks = omega (arith, ap length c.self.view_is, kept-len s.table.names s.table.stacks s.sums.items c.self.invariant.len) in
    let was = get_or_read s.sums.items c.args.place c.index_mut.result.now (omega (arith, within, c.self.invariant.len)) c.index_mut.ensures.value 0 in
    ap (λ n. kept_samples s.table.names s.table.stacks (set s.sums.items c.args.place (n + c.args.weight))) was
    ∙ kept-set s.table.names s.table.stacks s.sums.items c.args.place c.args.weight c.self.invariant.len within
    ∙ ap (λ (samples : List Sample). set samples c.args.place (record (sample_at samples c.args.place) { weight = (sample_at samples c.args.place).weight + c.args.weight })) c.self.view_is

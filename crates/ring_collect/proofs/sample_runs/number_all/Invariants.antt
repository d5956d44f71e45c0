use Rattle.std.proofs.Common.{All, ◌≡◌, [], map}
use Rattle.ring_collect.specs.checked.Numbering.{told_of, with_waiting}
use Rattle.ring_collect.proofs.sample_runs.number_all.Given as goal

-- the readers so far are numbered, and nothing is told
abbrev pub invariant-loop-reader : goal.invariant-loop-reader
invariant-loop-reader g l = record {
  rests : map (λ one. with_waiting one.waiting (g.R.SampleReader.rest one.reader)) l.all.items ≡ map g.R.SampleReader.rest l.yielded;
  nothing_told : All (λ one. told_of one.names one.stacks ≡ record { names = []; stacks = [] }) l.all.items;
}

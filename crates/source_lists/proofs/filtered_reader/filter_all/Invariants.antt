use Rattle.std.proofs.Common.{◌≡◌, map}
use Rattle.run_options.specs.Filters.{kept_rest}
use Rattle.source_lists.proofs.filtered_reader.filter_all.Given as goal

-- the readers so far leave samples out
abbrev pub invariant-loop-reader : goal.invariant-loop-reader
invariant-loop-reader g l =
    map (λ one. kept_rest one.filter (g.R.SampleReader.rest one.reader)) l.all.items
    ≡ map (λ reader. kept_rest l.filter (g.R.SampleReader.rest reader)) l.yielded

use Rattle.std.proofs.Common.{◌∙◌, ap, arith}
use Rattle.std.specs.List.{slice_index}
use Rattle.profile_tables.proofs.samples.weight_among.Goals as goal

pub returns-in-Some : goal.returns-in-Some
returns-in-Some c = c.in-Some.ensures.lookup.3.1 0 ∙ ap (slice_index c.args.values.now) c.unwrap_or.ensures

pub returns-in-None : goal.returns-in-None
returns-in-None c = c.in-None.ensures.lookup.4 (omega arith) 0 ∙ ap (slice_index c.args.values.now) c.unwrap_or.ensures

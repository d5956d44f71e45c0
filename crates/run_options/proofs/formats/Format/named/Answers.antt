use Rattle.std.proofs.Common.{ap, sym}
use Rattle.run_options.specs.Formats.{named_format}
use Rattle.run_options.proofs.formats.Format.named.Goals as goal

pub returns-in-pprof : goal.returns-in-pprof
returns-in-pprof c = sym (ap named_format c.in-pprof.is)

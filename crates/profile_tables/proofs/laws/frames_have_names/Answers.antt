use Rattle.profile_tables.proofs.FrameNameLemmas.{pprof_named}
use Rattle.profile_tables.proofs.laws.frames_have_names.Goals as goal

pub returns : goal.returns
returns c = pprof_named

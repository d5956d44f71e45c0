use Rattle.std.proofs.Common.{◌≡◌, Bool, ℕ, Result, Ok, Err}
use Rattle.std.specs.Bool.{if◌then◌else◌}
use Rattle.std.specs.Result.{is_err}
use Rattle.byte_io.specs.Calls.{CountsRead, one_more}
use Rattle.byte_io.proofs.inlet.CountedReaderInlet.read.Goals as goal

counted : {E : Type 0} (r : Result ℕ E) (old new : ℕ) (failed : Bool) → failed ≡ is_err r → new ≡ (if failed then one_more old else old) → CountsRead old new r
counted (Ok _) old new failed f e = rw f at e
counted (Err _) old new failed f e = rw f at e

pub returns-clause-count : goal.returns-clause-count
returns-clause-count g c = counted _ _ _ _ c.is_err.ensures.value c.count_after-self.ensures

use Rattle.std.proofs.Common.{◌≡◌, Bool, Result, Ok, Err}
use Rattle.std.specs.Bool.{IsTrue}
use Rattle.std.specs.Result.{OnOk, is_ok}
use Rattle.byte_io.proofs.outlet.CountedWriterOutlet.flush.Goals as goal

true_on_ok : {T E : Type 0} (r : Result T E) (b : Bool) → b ≡ is_ok r → OnOk r (IsTrue b)
true_on_ok (Ok _) b e = e
true_on_ok (Err _) b e = tt

pub returns-clause-handed_on : goal.returns-clause-handed_on
returns-clause-handed_on g c = true_on_ok _ _ c.is_ok-self.ensures.value

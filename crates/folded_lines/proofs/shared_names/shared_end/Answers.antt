use Rattle.std.proofs.Common.{ℕ, take, IfSome, Option, Some, None}
use Rattle.memchr.specs.Find.{IsLastByte, is_byte}
use Rattle.folded_lines.specs.checked.Sharing.{IsSharedEnd}
use Rattle.folded_lines.proofs.SharingLemmas.{IsSharedEnd-at}
use Rattle.folded_lines.proofs.shared_names.shared_end.Goals as goal

pub returns : goal.returns
returns c = found c.rfind_byte.result c.rfind_byte.ensures
  where
    found : (at : Option ℕ) → IsLastByte (is_byte 59) (take c.same_bytes-len.result c.args.last.now) at → IfSome at (IsSharedEnd c.args.last.now c.args.head.now)
    found None is = tt
    found (Some at) is =
        IsSharedEnd-at c.args.last.now c.args.head.now c.same_bytes-len.result at c.same_bytes-len.ensures.one c.same_bytes-len.ensures.other c.same_bytes-len.ensures.same is.0.high is.1

use Rattle.std.proofs.Common.{◌∙◌, ◌≤◌, ℕ, List, Option, Some, None, length, drop, arith}
use Rattle.std.specs.Io.KnownBytes.{Appends, Keeps}
use Rattle.std.proofs.lemmas.List.{take_rest, length-drop}
use Rattle.byte_io.proofs.Bytes.{Appends-more, count-took}
use Rattle.byte_io.proofs.whole_output.write_whole.Goals as goal

Appends-kept : (a b c : Option (List ℕ)) (bytes : List ℕ) → Appends a b bytes → Keeps b c → Appends a c bytes
Appends-kept None b c bytes sent kept = tt
Appends-kept (Some x) None c bytes sent kept = absurd sent
Appends-kept (Some x) (Some y) None bytes sent kept = absurd kept
Appends-kept (Some x) (Some y) (Some z) bytes sent kept = kept ∙ sent

pub loop-written-preserved : goal.loop-written-preserved
loop-written-preserved g c =
    let bytes = c.args.bytes.now in
    let i = c.loop-written.written in
    let is_left = take_rest bytes i in
    let bound : c.in-Ok.count ≤ length (drop i bytes) = rw (← is_left) c.in-Ok.ensures.bound in
    record {
      within = omega (arith, length-drop i bytes);
      sent = Appends-more _ _ _ bytes _ i c.in-Ok.count is_left c.loop-written.invariant.sent c.in-Ok.ensures.bytes;
      unfailed = count-took _ _ c.in-Ok.count _ c.in-Ok.count-test.1 c.in-Ok.ensures.count ∙ c.loop-written.invariant.unfailed;
    }

pub returns-in-Err-clause-fault : goal.returns-in-Err-clause-fault
returns-in-Err-clause-fault g c = Appends-kept _ _ _ _ c.loop-written.invariant.sent c.in-Err.ensures.bytes

use Rattle.std.proofs.Common.{◌≡◌, take}
use Rattle.std.specs.List.{fold}
use Rattle.svg_texts.specs.Fills.{hash_step}
use Rattle.svg_texts.proofs.fills.hash_of.Given as goal

abbrev pub invariant-loop-byte : goal.invariant-loop-byte
invariant-loop-byte l = l.hash ≡ fold hash_step 0 (take l.byte-index l.byte-items)

use Rattle.std.proofs.Common.{◌≡◌, take, map, reverse}
use Rattle.std.specs.Prelude.{unwrap_or}
use Rattle.std.proofs.Common.{[]}
use Rattle.profile_tables.specs.checked.Frames.{texts_in}
use Rattle.profile_tables.proofs.frames.Frames.stacks.Given as goal

abbrev pub invariant-loop-span : goal.invariant-loop-span
invariant-loop-span l = l.stacks.items ≡ map (λ span. reverse (unwrap_or (texts_in l.self span) [])) (take l.span-index l.span-items)

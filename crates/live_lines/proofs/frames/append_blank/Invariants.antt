-- so many lines so far
use Rattle.std.proofs.Common.{◌≡◌, ◌≤◌, ◌++◌, replicate}
use Rattle.live_lines.proofs.frames.append_blank.Given as goal

abbrev pub invariant-loop : goal.invariant-loop
invariant-loop l = record {
  written : l.out.items ≡ l.fn.out.items ++ replicate l.counter 10;
  within : l.counter ≤ l.missing;
}

-- the decimals so far
use Rattle.std.proofs.Common.{◌≤◌, ◌<◌, ◌^◌}
use Rattle.view_texts.specs.Quotients.{fraction}
use Rattle.view_texts.proofs.Progress.{Progress}
use Rattle.view_texts.proofs.quotients.append_fraction.Given as goal

abbrev pub invariant-loop-left : goal.invariant-loop-left
invariant-loop-left l = record {
  few : l.places ≤ 20;
  within : l.left < 10 ^ l.places;
  text : Progress l.fn.out.items l.out.items (fraction l.places l.left) (fraction l.fn.places l.fn.left);
}

abbrev pub decreases-loop-left : goal.decreases-loop-left
decreases-loop-left l = l.places

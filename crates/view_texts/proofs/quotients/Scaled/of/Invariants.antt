-- the places so far, and how many the part still needs
use Rattle.std.proofs.Common.{◌≡◌, ◌+◌, ◌-◌, ◌*◌, ◌^◌, ◌<◌, ◌≤◌}
use Rattle.view_texts.specs.Quotients.{decimals}
use Rattle.view_texts.proofs.quotients.Scaled.of.Given as goal

abbrev pub invariant-loop-scaled : goal.invariant-loop-scaled
invariant-loop-scaled l = record {
  few : l.scaled.places ≤ 20;
  places : decimals 20 l.part l.whole ≡ l.scaled.places + decimals (20 - l.scaled.places) l.scaled.part l.whole;
  part : l.scaled.part ≡ 10 ^ l.scaled.places * l.part;
  fits : l.scaled.part < 2 ^ 126;
}

abbrev pub decreases-loop-scaled : goal.decreases-loop-scaled
decreases-loop-scaled l = 20 - l.scaled.places

use Rattle.std.proofs.Common.{◌≡◌, ◌+◌, ◌-◌, ◌≤◌, ◌++◌, All, length, map, drop}
use Rattle.merged_stacks.specs.checked.Swept.{swept, place_row, IsPlace}
use Rattle.merged_stacks.proofs.sweeps.sweep.Given as goal

abbrev pub invariant-each : goal.invariant-each
invariant-each l = record {
  before : l.before ≤ length l.lefts;
  after : l.after ≤ length l.rights;
  rows : map (place_row l.lefts l.rights) l.places.items ++ swept (drop l.before l.lefts) (drop l.after l.rights) ≡ swept l.lefts l.rights;
  within : All (IsPlace l.lefts l.rights) l.places.items;
}

abbrev pub decreases-each : goal.decreases-each
decreases-each l = (length l.lefts + length l.rights) - (l.before + l.after)

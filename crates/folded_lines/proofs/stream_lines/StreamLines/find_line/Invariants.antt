-- What may come now might have come when the search began, they are read as strictly, and no read failed so far.
use Rattle.std.proofs.Common.{◌≡◌, ◌≢◌, ◌-◌, ◌^◌, length}
use Rattle.folded_lines.specs.Streams.{Coming}
use Rattle.folded_lines.specs.checked.StreamLines.{LinesMayCome, unread_of}
use Rattle.folded_lines.specs.declared.stream_lines.StreamState.TheVariants.{Failed}
use Rattle.folded_lines.proofs.stream_lines.StreamLines.find_line.Given as goal

abbrev pub invariant-more : goal.invariant-more
invariant-more g l = record {
  kept : (coming : Coming) → LinesMayCome (g.I.Inlet.remaining l.self.inlet) (g.I.Inlet.is_sure l.self.inlet) l.self coming
      → LinesMayCome (g.I.Inlet.remaining l.initial.self.inlet) (g.I.Inlet.is_sure l.initial.self.inlet) l.initial.self coming;
  surety : g.I.Inlet.is_sure l.self.inlet ≡ g.I.Inlet.is_sure l.initial.self.inlet;
  strictness : l.self.is_strict ≡ l.initial.self.is_strict;
  unfailed : l.self.state ≢ Failed;
}

abbrev pub decreases-more : goal.decreases-more
decreases-more g l = 2 ^ 63 - length (unread_of l.self)

-- What was read so far is what the reader had before the rest, and no call failed.
use Rattle.std.proofs.Common.{◌≡◌, ◌≤◌, ◌<◌, ◌-◌, length, vec_len}
use Rattle.std.specs.Io.KnownBytes.{Consumes}
use Rattle.byte_io.proofs.whole_input.load_through.Given as goal

abbrev pub invariant-chunks : goal.invariant-chunks
invariant-chunks g l = record {
  room : 0 < length l.chunk;
  within : vec_len l.bytes ≤ l.limit;
  came : Consumes (g.R.Inlet.remaining l.initial.reader) (g.R.Inlet.remaining l.reader) l.bytes.items;
  unfailed : g.R.Inlet.failures l.reader ≡ g.R.Inlet.failures l.initial.reader;
}

abbrev pub decreases-chunks : goal.decreases-chunks
decreases-chunks g l = l.limit - vec_len l.bytes

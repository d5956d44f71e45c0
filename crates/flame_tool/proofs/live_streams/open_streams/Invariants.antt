-- The readers so far are of the first paths, of which none is known to be absent, and the streams tell what they told.
use Rattle.std.proofs.Common.{◌≡◌, false, [], All, length, map, take, string_bytes}
use Rattle.std.specs.List.{AllZip, list_any}
use Rattle.stack_core.specs.RowReading.{GivesSome}
use Rattle.flame_tool.specs.checked.LiveStreams.{IsOfFile}
use Rattle.flame_tool.proofs.live_streams.open_streams.Given as goal

abbrev pub invariant-loop-path : goal.invariant-loop-path
invariant-loop-path g l = record {
  count : length l.readers.items ≡ l.path-index;
  files : g.S.Streams.known_file l.streams ≡ g.S.Streams.known_file l.fn.streams;
  absences : g.S.Streams.is_absent l.streams ≡ g.S.Streams.is_absent l.fn.streams;
  nothing_told : All (λ reader. g.R.RowReader.told reader ≡ record { names = []; stacks = [] }) l.readers.items;
  possible : All (λ reader. GivesSome (g.R.RowReader.gives reader)) l.readers.items;
  opened : AllZip (IsOfFile l.is_strict (λ reader. g.R.RowReader.gives reader) (g.S.Streams.known_file l.fn.streams)) (map string_bytes (take l.path-index l.paths)) l.readers.items;
  present : list_any (g.S.Streams.is_absent l.fn.streams) (map string_bytes (take l.path-index l.paths)) ≡ false;
}

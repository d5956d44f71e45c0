-- The sources so far are those of the first paths, and the files tell what they told.
use Rattle.std.proofs.Common.{◌≡◌, length, map, take, string_bytes}
use Rattle.std.specs.List.{AllZip}
use Rattle.source_views.specs.Opening.{IsLoaded}
use Rattle.source_views.proofs.source_files.load_sources.Given as goal

abbrev pub invariant-loop-path : goal.invariant-loop-path
invariant-loop-path g l = record {
  count : length l.inputs.items ≡ l.path-index;
  files : g.F.Files.known_file l.files ≡ g.F.Files.known_file l.fn.files;
  loaded : AllZip (IsLoaded l.asked (g.F.Files.known_file l.fn.files)) (map string_bytes (take l.path-index l.paths)) l.inputs.items;
}

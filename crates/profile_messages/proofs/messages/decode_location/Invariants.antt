use Rattle.std.proofs.Common.{◌≡◌, ◌++◌, length, map}
use Rattle.std.specs.Prelude.{flat_map, filter_map}
use Rattle.profile_messages.specs.Message.{first, last_or, scalar_from, scalar, content_of}
use Rattle.profile_messages.specs.Shapes.{faults_of_field, faults_in, location_shape, kinds_of_fault}
use Rattle.profile_messages.specs.Records.{line_in, lines_in}
use Rattle.profile_messages.proofs.messages.decode_location.Given as goal

abbrev pub invariant-loop-field : goal.invariant-loop-field
invariant-loop-field l = record {
  faults : first (flat_map (faults_of_field location_shape) l.fields.items ++ kinds_of_fault l.fields.fault) ≡ first (faults_in location_shape l.message);
  id : last_or l.id (filter_map (scalar_from 1) l.fields.items) ≡ scalar 1 l.message;
  address : last_or l.address (filter_map (scalar_from 3) l.fields.items) ≡ scalar 3 l.message;
  lines : l.lines.items ++ map (λ line. line_in line.bytes) (filter_map (content_of 4) l.fields.items) ≡ l.fn.lines.items ++ lines_in l.message;
}

abbrev pub decreases-loop-field : goal.decreases-loop-field
decreases-loop-field l = length l.fields.items

use Rattle.std.proofs.Common.{◌≡◌, ◌++◌, length}
use Rattle.std.specs.Prelude.{flat_map, filter_map}
use Rattle.profile_messages.specs.Message.{first, last_or, scalar_from, scalar}
use Rattle.profile_messages.specs.Shapes.{faults_of_field, faults_in, scalars_shape, kinds_of_fault}
use Rattle.profile_messages.proofs.messages.decode_scalars.Given as goal

abbrev pub invariant-loop-field : goal.invariant-loop-field
invariant-loop-field l = record {
  faults : first (flat_map (faults_of_field (scalars_shape l.most)) l.fields.items ++ kinds_of_fault l.fields.fault) ≡ first (faults_in (scalars_shape l.most) l.message);
  first : last_or l.first (filter_map (scalar_from 1) l.fields.items) ≡ scalar 1 l.message;
  second : last_or l.second (filter_map (scalar_from 2) l.fields.items) ≡ scalar 2 l.message;
  third : l.most ≡ 3 → last_or l.third (filter_map (scalar_from 3) l.fields.items) ≡ scalar 3 l.message;
}

abbrev pub decreases-loop-field : goal.decreases-loop-field
decreases-loop-field l = length l.fields.items

use Rattle.std.proofs.Common.{◌≡◌, ◌++◌, length}
use Rattle.std.specs.Prelude.{flat_map}
use Rattle.profile_messages.specs.Message.{first, repeated_from, repeated_numbers}
use Rattle.profile_messages.specs.Shapes.{faults_of_field, faults_in, sample_shape, kinds_of_fault}
use Rattle.profile_messages.proofs.numbers.append_message.Given as goal

abbrev pub invariant-loop-field : goal.invariant-loop-field
invariant-loop-field l = record {
  faults : first (flat_map (faults_of_field sample_shape) l.fields.items ++ kinds_of_fault l.fields.fault) ≡ first (faults_in sample_shape l.sample);
  ids : l.ids.items ++ flat_map (repeated_from 1) l.fields.items ≡ l.fn.ids.items ++ repeated_numbers 1 l.sample;
  values : l.values.items ++ flat_map (repeated_from 2) l.fields.items ≡ l.fn.values.items ++ repeated_numbers 2 l.sample;
}

abbrev pub decreases-loop-field : goal.decreases-loop-field
decreases-loop-field l = length l.fields.items

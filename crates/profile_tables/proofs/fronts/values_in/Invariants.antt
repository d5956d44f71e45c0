use Rattle.std.proofs.Common.{◌≡◌, length}
use Rattle.std.specs.Prelude.{flat_map}
use Rattle.profile_messages.specs.Message.{first, repeated_from}
use Rattle.profile_messages.specs.Shapes.{faults_of_field, sample_shape}
use Rattle.profile_tables.specs.checked.Fronts.{with_values, no_values}
use Rattle.profile_tables.proofs.fronts.values_in.Given as goal

abbrev pub invariant-loop-field : goal.invariant-loop-field
invariant-loop-field l = record {
  faults : first (flat_map (faults_of_field sample_shape) l.fields.items) ≡ first (flat_map (faults_of_field sample_shape) l.fn.fields.items);
  fault : l.fields.fault ≡ l.fn.fields.fault;
  ids : flat_map (repeated_from 1) l.fields.items ≡ flat_map (repeated_from 1) l.fn.fields.items;
  values : with_values l.chosen l.values (flat_map (repeated_from 2) l.fields.items)
      ≡ with_values l.chosen no_values (flat_map (repeated_from 2) l.fn.fields.items);
}

abbrev pub decreases-loop-field : goal.decreases-loop-field
decreases-loop-field l = length l.fields.items

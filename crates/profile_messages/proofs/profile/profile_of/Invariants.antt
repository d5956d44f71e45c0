use Rattle.std.proofs.Common.{◌≡◌, ◌++◌, length}
use Rattle.std.specs.Prelude.{flat_map}
use Rattle.profile_messages.specs.Message.{first}
use Rattle.profile_messages.specs.Shapes.{faults_of_top_field, faults_behind, field_faults}
use Rattle.profile_messages.proofs.ProfileLemmas.{IsProfileBefore}
use Rattle.profile_messages.proofs.profile.profile_of.Given as goal

abbrev pub invariant-loop-field : goal.invariant-loop-field
invariant-loop-field l = record {
  faults : first (flat_map faults_of_top_field l.fields.items ++ faults_behind l.fields.fault) ≡ first (field_faults l.file);
  before : IsProfileBefore l.file l.fields.items l.profile;
}

abbrev pub decreases-loop-field : goal.decreases-loop-field
decreases-loop-field l = length l.fields.items

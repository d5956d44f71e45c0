-- a sample is among the fields that are left, if one is in the profile
use Rattle.std.proofs.Common.{◌≡◌, length}
use Rattle.std.specs.Prelude.{filter_map}
use Rattle.profile_messages.specs.Message.{content_of}
use Rattle.profile_messages.specs.Tables.{samples_of}
use Rattle.source_lists.specs.checked.StrictEndings.{has_some}
use Rattle.source_lists.proofs.strictness.has_sample.Given as goal

abbrev pub invariant-loop-field : goal.invariant-loop-field
invariant-loop-field l = has_some (filter_map (content_of 2) l.fields.items) ≡ has_some (samples_of l.profile)

abbrev pub decreases-loop-field : goal.decreases-loop-field
decreases-loop-field l = length l.fields.items

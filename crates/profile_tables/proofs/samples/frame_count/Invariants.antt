use Rattle.std.proofs.Common.{◌≡◌, ◌-◌, ◌^◌, false, length, take, min}
use Rattle.std.specs.Prelude.{is_none}
use Rattle.std.specs.List.{list_any}
use Rattle.profile_tables.specs.Samples.{frames_of_ids}
use Rattle.profile_tables.specs.checked.Frames.{frames_at}
use Rattle.profile_tables.proofs.samples.frame_count.Given as goal

abbrev pub invariant-loop-id : goal.invariant-loop-id
invariant-loop-id l = record {
  known : list_any (λ id. is_none (frames_at l.frames id)) (take l.id-index l.ids) ≡ false;
  count : l.count ≡ min (length (frames_of_ids (frames_at l.frames) (take l.id-index l.ids))) (2 ^ 64 - 1);
}

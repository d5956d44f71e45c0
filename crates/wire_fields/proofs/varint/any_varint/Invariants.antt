use Rattle.std.proofs.Common.{◌≡◌, ◌-◌, ◌*◌, ◌^◌, ◌<◌, ◌≤◌, drop}
use Rattle.wire_fields.specs.Varint.{varint_within, varint_at}
use Rattle.wire_fields.proofs.Groups.{with_low}
use Rattle.wire_fields.proofs.varint.any_varint.Given as goal

-- the groups so far and those to come are the whole number
abbrev pub invariant-loop-place : goal.invariant-loop-place
invariant-loop-place l = record {
  at_most_ten : l.place ≤ 9;
  below : l.number < 2 ^ (7 * l.place);
  told : with_low l.number (2 ^ (7 * l.place)) (varint_within (9 - l.place) (drop l.place l.bytes)) ≡ varint_at l.bytes;
}

use Rattle.std.proofs.Common.{◌≡◌, ◌≤◌, get_or, refl, arith}
use Rattle.wire_fields.proofs.Groups.{tells_truncated, tells_bad, added, ends_with, goes_on_with, not_the_tenth}
use Rattle.wire_fields.proofs.varint.any_varint.Goals as goal
use Rattle.wire_fields.proofs.varint.any_varint.Goals.{else-place-eq-TENTH-via-then-place-eq-TENTH+else-byte-gt1, else-place-eq-TENTH-via-else-place-eq-TENTH}

pub returns-then-byte-gt1 : goal.returns-then-byte-gt1
returns-then-byte-gt1 c = tells_bad _ _ _ _ _ c.if-place-eq-TENTH.true (omega arith) c.if-byte-gt1.true c.loop-place.invariant.told

pub overflow_add-number : goal.overflow_add-number
overflow_add-number c =
    let byte = get_or c.args.bytes.now c.loop-place.place 0 in
    let tenth : c.loop-place.place ≡ 9 → byte ≤ 1 = λ nine. elim c.else-place-eq-TENTH.branch [
      | else-place-eq-TENTH-via-then-place-eq-TENTH+else-byte-gt1 w ↦ omega arith
      | else-place-eq-TENTH-via-else-place-eq-TENTH w ↦ absurd (omega arith)
    ] in
    let sum = added c.loop-place.number byte c.from.result c.loop-place.place c.loop-place.invariant.below c.loop-place.invariant.at_most_ten tenth c.from.ensures in
    omega (arith, sum.fits)

pub returns-then-byte-lt128 : goal.returns-then-byte-lt128
returns-then-byte-lt128 c =
    let place = c.loop-place.place in
    let byte = get_or c.args.bytes.now place 0 in
    let tenth : place ≡ 9 → byte ≤ 1 = λ nine. elim c.else-place-eq-TENTH.branch [
      | else-place-eq-TENTH-via-then-place-eq-TENTH+else-byte-gt1 w ↦ omega arith
      | else-place-eq-TENTH-via-else-place-eq-TENTH w ↦ absurd (omega arith)
    ] in
    let sum = added c.loop-place.number byte c.from.result place c.loop-place.invariant.below c.loop-place.invariant.at_most_ten tenth c.from.ensures in
    ends_with place c.loop-place.number byte c.from.result _ c.args.bytes.now _ sum refl c.loop-place.invariant.at_most_ten (omega arith) c.if-byte-lt128.true tenth c.loop-place.invariant.told

pub loop-place-preserved : goal.loop-place-preserved
loop-place-preserved c =
    let place = c.loop-place.place in
    let byte = get_or c.args.bytes.now place 0 in
    let tenth : place ≡ 9 → byte ≤ 1 = λ nine. elim c.else-place-eq-TENTH.branch [
      | else-place-eq-TENTH-via-then-place-eq-TENTH+else-byte-gt1 w ↦ omega arith
      | else-place-eq-TENTH-via-else-place-eq-TENTH w ↦ absurd (omega arith)
    ] in
    let below = not_the_tenth place byte c.loop-place.invariant.at_most_ten tenth c.if-byte-lt128.false in
    let sum = added c.loop-place.number byte c.from.result place c.loop-place.invariant.below c.loop-place.invariant.at_most_ten tenth c.from.ensures in
    record {
      at_most_ten = omega arith;
      below = sum.below;
      told = goes_on_with place c.loop-place.number byte c.from.result _ c.args.bytes.now _ sum refl below (omega arith) c.if-byte-lt128.false c.loop-place.invariant.told;
    }

pub returns : goal.returns
returns c = tells_truncated _ _ _ _ _ (omega arith) c.loop-place.invariant.told

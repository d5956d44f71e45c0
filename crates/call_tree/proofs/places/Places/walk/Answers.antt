use Rattle.std.proofs.Common.{inl, false, subst, arith}
use Rattle.call_tree.proofs.PlaceWalks.{leads_first, leads_on, left_on, left_none}
use Rattle.call_tree.proofs.places.Places.walk.Goals as goal

pub loop-number-init : goal.loop-number-init
loop-number-init g c = record {
  leads = λ some. rw c.home-place.ensures (leads_first _ _ _ some c.requires.slots);
  left = rw c.home-place.ensures (λ n placed. inl placed);
}

pub below-place-requires : goal.below-place-requires
below-place-requires g c = c.requires.sound.within c.loop-number.place c.in-Some.number c.in-Some.ensures

pub loop-number-preserved : goal.loop-number-preserved
loop-number-preserved g c =
    let missed = subst (goal.F-post g c.args.is_it c.in-Some.number) c.if-is_it.false c.is_it.ensures in
    record {
      leads = λ some. rw c.below-place.ensures (leads_on c.in-Some.number c.requires.sound c.in-Some.ensures (c.loop-number.invariant.leads some));
      left = rw c.below-place.ensures (left_on (λ n. goal.F-post g c.args.is_it n false) _ _ _ _ _ c.in-Some.number c.in-Some.ensures missed c.loop-number.invariant.left);
    }

pub loop-number-smaller : goal.loop-number-smaller
loop-number-smaller g c =
    let rises = c.requires.sound.rises c.loop-number.place c.in-Some.number c.in-Some.ensures in
    let within = c.requires.sound.within c.loop-number.place c.in-Some.number c.in-Some.ensures in
    omega (arith, rises, within, c.below-place.ensures)

pub returns-clause-absent : goal.returns-clause-absent
returns-clause-absent g c = left_none (λ n. goal.F-post g c.args.is_it n false) _ _ _ _ _ c.in_default.ensures c.loop-number.invariant.left

pub returns-clause-free : goal.returns-clause-free
returns-clause-free g c = λ some. record {
  bits = c.loop-number.bits;
  leads = c.loop-number.invariant.leads some;
  empty = c.in_default.ensures;
}

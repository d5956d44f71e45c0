use Rattle.std.proofs.Common.{arith, refl}
use Rattle.std.proofs.lemmas.Bool.{false_from_ne_true, false≢true}
use Rattle.std.proofs.lemmas.Slice.Eq.{bytes_eq-Decides}
use Rattle.flame_layout.proofs.WalkSteps.{alike_further, alike_to_the_end, alike_until}
use Rattle.flame_layout.proofs.shared_names.shared_in_list.Goals as goal

pub returns-then-not-is_same_name : goal.returns-then-not-is_same_name
returns-then-not-is_same_name g c =
    alike_until _ _ _ c.loop-frame.invariant (omega (arith, c.depth.ensures.value)) (omega (arith, c.depth-2.ensures.value)) (omega (arith, c.depth.ensures))
    (false_from_ne_true _ (λ t. false≢true (c.if-not-is_same_name.ensures.1 ((bytes_eq-Decides _ _).0 t))))

pub loop-frame-preserved : goal.loop-frame-preserved
loop-frame-preserved g c =
    alike_further _ _ _ c.loop-frame.invariant (omega (arith, c.depth.ensures.value)) (omega (arith, c.depth-2.ensures.value)) (c.if-not-is_same_name.ensures.0 refl)

pub returns : goal.returns
returns g c =
    alike_to_the_end _ _ _ _ c.loop-frame.invariant (omega arith) (omega (arith, c.depth.ensures.value)) (omega (arith, c.depth-2.ensures.value)) (omega (arith, c.depth.ensures))
    (λ h. omega (arith, h, c.depth.ensures.value, c.depth-2.ensures.value)) (λ h. omega (arith, h, c.depth.ensures.value, c.depth-2.ensures.value))

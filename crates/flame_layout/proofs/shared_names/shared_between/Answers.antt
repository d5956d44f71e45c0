use Rattle.std.proofs.Common.{◌≡◌, ◌∙◌, [], ap, arith, false, get_or, sym}
use Rattle.std.specs.Str.{bytes_eq}
use Rattle.std.proofs.lemmas.Bool.{not-false, not-true}
use Rattle.std.proofs.lemmas.Slice.Eq.{bytes_eq-Decides}
use Rattle.sample_tables.specs.Rows.{sample_at}
use Rattle.flame_layout.proofs.WalkSteps.{alike_further, alike_to_the_end, alike_until}
use Rattle.flame_layout.proofs.shared_names.shared_between.Goals as goal

pub returns-then-ne : goal.returns-then-ne
returns-then-ne g c =
    let i = c.loop-frame.frame in
    let two = (sample_at (g.S.StackRows.samples c.args.other.now) c.args.later).stack in
    let apart : bytes_eq c.name.result.now c.name-in-loop-frame.result.now ≡ false = not-true _ (sym c.ne.ensures ∙ c.if-ne.true) in
    alike_until _ _ _ c.loop-frame.invariant (omega (arith, c.depth.ensures.value)) (omega (arith, c.depth-2.ensures.value)) (omega (arith, c.depth.ensures))
    (ap (λ n. bytes_eq n (get_or two i [])) (sym c.name.ensures) ∙ (ap (bytes_eq c.name.result.now) (sym c.name-in-loop-frame.ensures) ∙ apart))

pub loop-frame-preserved : goal.loop-frame-preserved
loop-frame-preserved g c =
    let alike : c.name.result.now ≡ c.name-in-loop-frame.result.now = (bytes_eq-Decides _ _).0 (not-false _ (sym c.ne.ensures ∙ c.if-ne.false)) in
    alike_further _ _ _ c.loop-frame.invariant (omega (arith, c.depth.ensures.value)) (omega (arith, c.depth-2.ensures.value)) (sym c.name.ensures ∙ (alike ∙ c.name-in-loop-frame.ensures))

pub returns : goal.returns
returns g c =
    alike_to_the_end _ _ _ _ c.loop-frame.invariant (omega arith) (omega (arith, c.depth.ensures.value)) (omega (arith, c.depth-2.ensures.value)) (omega (arith, c.depth.ensures))
    (λ h. omega (arith, h, c.depth.ensures.value, c.depth-2.ensures.value)) (λ h. omega (arith, h, c.depth.ensures.value, c.depth-2.ensures.value))

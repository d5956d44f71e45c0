use Rattle.std.proofs.Common.{◌≡◌, ◌*◌, ◌+◌, ◌-◌, ℕ, take, drop, slice_range, sym, ap, ◌∙◌, refl, arith}
use Rattle.std.proofs.lemmas.Bool.{not-false}
use Rattle.std.proofs.lemmas.Bool.Decides.{Decides-eqb}
use Rattle.std.proofs.lemmas.Slice.Eq.{slice_eq-Decides}
use Rattle.folded_lines.proofs.SharingLemmas.{same-more}
use Rattle.folded_lines.proofs.shared_names.same_steps.Goals as goal

by_step : (n : ℕ) → n + 32 - n ≡ 32
by_step n = omega arith

pub loop-step-preserved : goal.loop-step-preserved
loop-step-preserved c =
    let at : ℕ = c.loop-step.step * 32 in
    let one = c.args.one.now in
    let other = c.args.other.now in
    let same : slice_range one at (at + 32) ≡ slice_range other at (at + 32) =
    (slice_eq-Decides Decides-eqb (slice_range one at (at + 32)) (slice_range other at (at + 32)) _ refl).0 (not-false _ (sym c.ne.ensures ∙ c.if-ne.false)) in
    let more : take 32 (drop at one) ≡ take 32 (drop at other) =
    ap (λ k. take k (drop at one)) (sym (by_step at)) ∙ same ∙ ap (λ k. take k (drop at other)) (by_step at) in
    same-more at 32 ((c.loop-step.step + 1) * 32) one other (omega arith) c.loop-step.invariant more
